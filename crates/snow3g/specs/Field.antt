-- Document 2 (TS 35.216) 3.1 and 3.4: octets as fields of 2^8 elements, in which x^8 = c, and the words of MULalpha and DIValpha.
-- Assumes nothing.
use Rattle.std.specs.Prelude.{ℕ, zero, suc, ◌/◌, ◌%◌, cond, nat_lt}
use Rattle.streams.specs.Field.{mulx, times}
use Rattle.snow3g.specs.Words.{word}

-- 3.1.1: MULx is mulx. 3.1.2: i times
unfoldable pub mulx_pow : ℕ → ℕ → ℕ → ℕ
mulx_pow v zero c = v
mulx_pow v (suc i) c = mulx (mulx_pow v i c) c

-- 3.4.2 and 3.4.3, with c = A9
unfoldable pub mul_alpha : ℕ → ℕ
mul_alpha v = word (mulx_pow v 23 0xA9) (mulx_pow v 245 0xA9) (mulx_pow v 48 0xA9) (mulx_pow v 239 0xA9)

unfoldable pub div_alpha : ℕ → ℕ
div_alpha v = word (mulx_pow v 16 0xA9) (mulx_pow v 39 0xA9) (mulx_pow v 6 0xA9) (mulx_pow v 64 0xA9)

-- a to the power e of n bits: the product of a, a^2, a^4, .. at the bits of e that are set
unfoldable pub power_bits : ℕ → ℕ → ℕ → ℕ → ℕ
power_bits c zero e a = 1
power_bits c (suc n) e a = cond (nat_lt (e % 2) 1) (power_bits c n (e / 2) (times c a a)) (times c a (power_bits c n (e / 2) (times c a a)))
