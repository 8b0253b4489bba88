-- Octets as a field of 2^8 elements: polynomials in x over the bits, in which x^8 = c.
-- Assumes nothing.
use Rattle.std.specs.Prelude.{cond, ℕ, zero, suc, ◌-◌, ◌*◌, ◌/◌, ◌%◌, ltb}
use Rattle.std.specs.Int.Bits.{bit_xor}

-- v times x
unfoldable pub mulx : ℕ → ℕ → ℕ
mulx v c = cond (ltb v 128) (v * 2) (bit_xor ((v - 128) * 2) c)

-- the product of a and b: the sum of b, b x, b x^2, .. at the n low bits of a that are set
unfoldable pub times_bits : ℕ → ℕ → ℕ → ℕ → ℕ
times_bits c zero a b = 0
times_bits c (suc n) a b = bit_xor (a % 2 * b) (times_bits c n (a / 2) (mulx b c))

unfoldable pub times : ℕ → ℕ → ℕ → ℕ
times c a b = times_bits c 8 a b
