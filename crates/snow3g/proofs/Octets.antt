-- What the fields and boxes make of octets are octets.
-- Assumes nothing.
use Rattle.std.proofs.Common.{◌≡◌, ℕ, zero, suc, ◌-◌, ◌*◌, ◌/◌, ◌%◌, ◌<◌, Bool, true, false, cond, ltb, List, [], ◌∷◌, refl, mod-lt, arith, lit<, ltb-true}
use lib.Bits.{bit_xor, xor_lt}
use Rattle.streams.specs.Field.{mulx, times_bits, times}
use Rattle.snow3g.specs.Field.{power_bits}
use Rattle.snow3g.specs.Boxes.{powers, sq}

pub mulx-octet : (v c : ℕ) → v < 256 → c < 256 → mulx v c < 256
unfolding mulx
mulx-octet v c h k = go (ltb v 128) (ltb-true v 128)
  where
    go : (t : Bool) → (t ≡ true → v < 128) → cond t (v * 2) (bit_xor ((v - 128) * 2) c) < 256
    go true e = omega (arith, e refl)
    go false e = xor_lt 8 ((v - 128) * 2) c (omega arith) k

bit-times : (t b : ℕ) → t < 2 → b < 256 → t * b < 256
bit-times zero b h k = omega arith
bit-times (suc zero) b h k = omega arith
bit-times (suc (suc t)) b h k = absurd (omega arith)

times-bits-octet : (c n a b : ℕ) → c < 256 → b < 256 → times_bits c n a b < 256
unfolding times_bits
times-bits-octet c zero a b h k = lit< tt
times-bits-octet c (suc n) a b h k =
    xor_lt 8 (a % 2 * b) (times_bits c n (a / 2) (mulx b c)) (bit-times (a % 2) b (mod-lt a (lit< tt)) k)
    (times-bits-octet c n (a / 2) (mulx b c) h (mulx-octet b c k h))

times-octet : (c a b : ℕ) → c < 256 → b < 256 → times c a b < 256
unfolding times
times-octet c a b h k = times-bits-octet c 8 a b h k

power-octet : (c n e a : ℕ) → c < 256 → a < 256 → power_bits c n e a < 256
unfolding power_bits
power-octet c zero e a h k = lit< tt
power-octet c (suc n) e a h k = go (ltb (e % 2) 1) (power-octet c n (e / 2) (times c a a) h (times-octet c a a h k))
  where
    go : (t : Bool) → power_bits c n (e / 2) (times c a a) < 256
        → cond t (power_bits c n (e / 2) (times c a a)) (times c a (power_bits c n (e / 2) (times c a a))) < 256
    go true p = p
    go false p = times-octet c a (power_bits c n (e / 2) (times c a a)) h p

powers-octet : (es : List ℕ) (x : ℕ) → x < 256 → powers es x < 256
unfolding powers
powers-octet [] x h = lit< tt
powers-octet (e ∷ es) x h = xor_lt 8 (power_bits 0x69 6 e x) (powers es x) (power-octet 0x69 6 e x (lit< tt) h) (powers-octet es x h)

pub sq-octet : (x : ℕ) → x < 256 → sq x < 256
unfolding sq
sq-octet x h = xor_lt 8 _ 0x25 (powers-octet _ x h) (lit< tt)
