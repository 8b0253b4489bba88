-- A stream cipher that gives words of 32 bits, as SNOW 3G and ZUC do: a state gives a `word` and goes on by `step`.
-- Assumes nothing.
use Rattle.std.specs.Prelude.{List, [], ◌∷◌, ◌++◌, ℕ, zero, suc, ◌+◌, ◌/◌, length}
use Rattle.aes.specs.Octets.{xor, octets}

-- the state n steps later
unfoldable pub after : {S : Type 0} → (S → S) → ℕ → S → S
after step zero x = x
after step (suc n) x = step (after step n x)

-- the next n words
unfoldable pub words : {S : Type 0} → (S → S) → (S → ℕ) → ℕ → S → List ℕ
words step word zero x = []
words step word (suc n) x = word x ∷ words step word n (step x)

-- the octets of words in a row, the most significant of each first
abbrev pub octets_of : List ℕ → List ℕ
octets_of [] = []
octets_of (z ∷ zs) = octets 4 z ++ octets_of zs

-- octets under the words from a state on; the same for deciphering. What is left of the last word is not used
unfoldable pub enciphered : {S : Type 0} → (S → S) → (S → ℕ) → S → List ℕ → List ℕ
enciphered step word x l = xor l (octets_of (words step word ((length l + 3) / 4) x))
