-- Document 2, section 2: words of 32 bits and their bits. The leftmost is the most significant.
-- Assumes nothing.
use Rattle.std.specs.Prelude.{ℕ, zero, suc, ◌+◌, ◌*◌, ◌/◌, ◌%◌, ◌^◌, List, [], ◌∷◌}

-- a number in n bits
abbrev pub bits : ℕ → ℕ → List ℕ
bits zero x = []
bits (suc n) x = x / 2 ^ n % 2 ∷ bits n x

-- a || b, two halves of a word
abbrev pub joined : ℕ → ℕ → ℕ
joined a b = a * 2 ^ 16 + b

-- a ⊞ b
abbrev pub sum : ℕ → ℕ → ℕ
sum a b = (a + b) % 2 ^ 32
