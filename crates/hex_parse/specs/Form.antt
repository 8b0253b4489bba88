-- The form of a line (docs/HEX-LINES.md): a list of fields, its name first, with one space between them. A field is a list of
-- places: a character that stands for itself, or a capital letter for any digit of a set. Assumes nothing.
use Rattle.std.specs.Prelude.{ℕ, Bool, true, false, cond, ◌&&◌, List, [], ◌∷◌, ◌++◌, leb, eqb, length, get_or, take, drop, replicate}
use Rattle.hex_lines.specs.Hex.{is_digit, number_after}
use Rattle.hex_lines.specs.Line.{written}

abbrev pub space : ℕ
space = 32

-- X: any digit; S: a slot, 0 to 7; D: a direction, 0 or 1; C: a connection, 1 or 2
abbrev pub digits : ℕ → List ℕ
digits n = replicate n 88

abbrev pub slot : List ℕ
slot = 83 ∷ []

abbrev pub direction : List ℕ
direction = 68 ∷ []

abbrev pub connection : List ℕ
connection = 67 ∷ []

abbrev pub key : List ℕ
key = digits 32

abbrev pub between : ℕ → ℕ → ℕ → Bool
between low high c = leb low c && leb c high

-- whether a character may stand at a place
unfoldable pub may_stand : ℕ → ℕ → Bool
may_stand place c =
    cond (eqb place 88) (is_digit c)
    (cond (eqb place 83) (between 48 55 c)
    (cond (eqb place 68) (between 48 49 c)
    (cond (eqb place 67) (between 49 50 c)
    (eqb c place))))

-- whether a text begins as the places say
unfoldable pub begins : List ℕ → List ℕ → Bool
begins [] text = true
begins (p ∷ ps) [] = false
begins (p ∷ ps) (c ∷ cs) = may_stand p c && begins ps cs

-- fields with a space between them, and a space after each
abbrev pub row : List (List ℕ) → List ℕ
row [] = []
row (f ∷ []) = f
row (f ∷ g ∷ fs) = f ++ space ∷ row (g ∷ fs)

abbrev pub spaced : List (List ℕ) → List ℕ
spaced [] = []
spaced (f ∷ fs) = f ++ space ∷ spaced fs

-- whether a text is as the places say
unfoldable pub fits : List ℕ → List ℕ → Bool
fits places text = eqb (length text) (length places) && begins places text

-- a line without octets has its fields and nothing more; with octets, these follow a last space
abbrev pub is_row : List (List ℕ) → List ℕ → Bool
is_row form text = fits (row form) text

abbrev pub has_head : List (List ℕ) → List ℕ → Bool
has_head form text = begins (spaced form) text

-- where field i begins
abbrev pub from : List (List ℕ) → ℕ → ℕ
from form i = length (spaced (take i form))

-- a number of so many digits at a place, and a key: the octets that its 32 digits are
unfoldable pub number_at : List ℕ → ℕ → ℕ → ℕ
number_at text at n = number_after 0 (take n (drop at text))

unfoldable pub key_at : List ℕ → ℕ → List ℕ
key_at text at = written (take 32 (drop at text)) (replicate 16 0)

-- field i as a number
abbrev pub word : List (List ℕ) → List ℕ → ℕ → ℕ
word form text i = number_at text (from form i) (length (get_or form i []))

abbrev pub key_word : List (List ℕ) → List ℕ → ℕ → List ℕ
key_word form text i = key_at text (from form i)
