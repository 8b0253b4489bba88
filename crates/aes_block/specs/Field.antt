-- FIPS 197 (2023) section 4 and 5.1.1: octets as the field GF(2^8), and the S-box.
-- Assumes nothing.
use Rattle.std.specs.Prelude.{cond, ℕ, zero, suc, ◌+◌, ◌-◌, ◌*◌, ◌/◌, ◌%◌, ◌^◌, ltb}
use Rattle.std.specs.Int.Bits.{bit_xor}

-- 4.2, x_times: times x, modulo x^8 + x^4 + x^3 + x + 1
unfoldable pub x_times : ℕ → ℕ
x_times b = cond (ltb b 128) (b * 2) (bit_xor ((b - 128) * 2) 27)

-- 4.2: the sum of b, x_times b, x_times (x_times b), .. at the n low bits of a that are set
unfoldable pub times_bits : ℕ → ℕ → ℕ → ℕ
times_bits zero a b = 0
times_bits (suc n) a b = bit_xor (a % 2 * b) (times_bits n (a / 2) (x_times b))

-- 4.2: a • b
unfoldable pub times : ℕ → ℕ → ℕ
times a b = times_bits 8 a b

-- the product of the n squares a, a^2, a^4, ..
unfoldable pub squares : ℕ → ℕ → ℕ
squares zero a = 1
squares (suc n) a = times a (squares n (times a a))

-- 4.4: the inverse of a is a^254 = a^2 • a^4 • a^8 • .. • a^128; that of 0 is 0
unfoldable pub inverse : ℕ → ℕ
inverse a = squares 7 (times a a)

-- bit i of b
abbrev pub bit : ℕ → ℕ → ℕ
bit b i = b / 2 ^ i % 2

-- the octet with these bits
abbrev pub of_bits : (ℕ → ℕ) → ℕ
of_bits f = f 0 + f 1 * 2 + f 2 * 4 + f 3 * 8 + f 4 * 16 + f 5 * 32 + f 6 * 64 + f 7 * 128

-- 5.1.1: the affine transformation, bit by bit
unfoldable pub affine : ℕ → ℕ
affine b = of_bits (λ i. (bit b i + bit b ((i + 4) % 8) + bit b ((i + 5) % 8) + bit b ((i + 6) % 8) + bit b ((i + 7) % 8) + bit 99 i) % 2)

-- 5.1.1: the S-box
unfoldable pub sbox : ℕ → ℕ
sbox b = affine (inverse b)
