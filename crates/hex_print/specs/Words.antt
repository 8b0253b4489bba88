-- The words of an answer (docs/HEX-LINES.md, "Answers"), each with the space in front of it, in ASCII.
use Rattle.std.specs.Prelude.{ℕ, ◌-◌, ◌≡◌, List, [], ◌∷◌, ◌++◌, take, drop}
use Rattle.hex_lines.specs.Hex.{text_of, decimal_of, big_endian}

-- ok, no, bad
abbrev pub ok : List ℕ
ok = 111 ∷ 107 ∷ []

abbrev pub no : List ℕ
no = 110 ∷ 111 ∷ []

abbrev pub bad : List ℕ
bad = 98 ∷ 97 ∷ 100 ∷ []

-- a number in two digits for each of n octets
unfoldable pub word : ℕ → ℕ → List ℕ
word n x = 32 ∷ text_of (drop (8 - n) (big_endian x))

-- a number in decimal
unfoldable pub decimal_word : ℕ → List ℕ
decimal_word n = 32 ∷ decimal_of n

-- octets, `-` for none
unfoldable pub octets_word : List ℕ → List ℕ
octets_word [] = 32 ∷ 45 ∷ []
octets_word (b ∷ bs) = 32 ∷ text_of (b ∷ bs)

-- a text put into l at a place: what stood before the place stands there still, the text follows, and r is the place after it
pub record Puts (l : List ℕ) (at : ℕ) (text now : List ℕ) (r : ℕ) : Type 0 where
  pub put : take r now ≡ take at l ++ text
