-- Document 2 (TS 35.216) 3.4: the shift register of sixteen words s and the state machine of three words r1, r2, r3.
-- Assumes nothing.
use Rattle.std.specs.Prelude.{ℕ, ◌+◌, ◌*◌, ◌/◌, ◌%◌, ◌^◌, bit_xor, slice_index}
use Rattle.streams.specs.Words.{shifted}
use Rattle.snow3g.specs.declared.State.{State}
use Rattle.snow3g.specs.Words.{octet0, octet3}
use Rattle.snow3g.specs.Field.{mul_alpha, div_alpha}
use Rattle.snow3g.specs.Boxes.{s1, s2}

-- word i of the register
abbrev pub at : State → ℕ → ℕ
at m i = slice_index m.s i

-- 3.4.4 and 3.4.5: the word that is shifted in, of the words s0, s2, s11 and f, which is 0 in keystream mode
unfoldable pub feedback : ℕ → ℕ → ℕ → ℕ → ℕ
feedback s0 s2 s11 f =
    bit_xor
    (bit_xor (bit_xor (bit_xor (bit_xor (s0 * 2 ^ 8 % 2 ^ 32) (mul_alpha (octet0 s0))) s2) (s11 / 2 ^ 8)) (div_alpha (octet3 s11)))
    f

-- 3.4.6: F, the output of the state machine
unfoldable pub output : State → ℕ
output m = bit_xor ((at m 15 + m.r1) % 2 ^ 32) m.r2

-- 3.4.6: the state machine clocked, and the register with f
unfoldable pub clock : State → ℕ → State
clock m f =
    record {
      s = shifted m.s (feedback (at m 0) (at m 2) (at m 11) f);
      r1 = (m.r2 + bit_xor m.r3 (at m 5)) % 2 ^ 32;
      r2 = s1 m.r1;
      r3 = s2 m.r2;
    }
