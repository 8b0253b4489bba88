-- Document 2 (TS 35.216) 5 and 3.3: the boxes SR and SQ on octets, S1 and S2 on words.
-- Assumes nothing.
use Rattle.std.specs.Prelude.{ℕ, List, [], ◌∷◌, bit_xor}
use Rattle.aes.specs.Field.{sbox}
use Rattle.snow3g.specs.Words.{word, octet0, octet1, octet2, octet3, xor4}
use Rattle.streams.specs.Field.{mulx}
use Rattle.snow3g.specs.Field.{power_bits}

-- 5.1: SR is the box of AES
abbrev pub sr : ℕ → ℕ
sr x = sbox x

-- 5.2: the sum of the powers of x, modulo x^8 + x^6 + x^5 + x^3 + 1
unfoldable pub powers : List ℕ → ℕ → ℕ
powers [] x = 0
powers (e ∷ es) x = bit_xor (power_bits 0x69 6 e x) (powers es x)

unfoldable pub sq : ℕ → ℕ
sq x = bit_xor (powers (1 ∷ 9 ∷ 13 ∷ 15 ∷ 33 ∷ 41 ∷ 45 ∷ 47 ∷ 49 ∷ []) x) 0x25

-- 3.3.1 and 3.3.2: the four octets a, b, d, e mixed
unfoldable pub mix : ℕ → ℕ → ℕ → ℕ → ℕ → ℕ
mix c a b d e =
    word
    (xor4 (mulx a c) b d (bit_xor (mulx e c) e))
    (xor4 (bit_xor (mulx a c) a) (mulx b c) d e)
    (xor4 a (bit_xor (mulx b c) b) (mulx d c) e)
    (xor4 a b (bit_xor (mulx d c) d) (mulx e c))

unfoldable pub s1 : ℕ → ℕ
s1 w = mix 0x1B (sr (octet0 w)) (sr (octet1 w)) (sr (octet2 w)) (sr (octet3 w))

unfoldable pub s2 : ℕ → ℕ
s2 w = mix 0x69 (sq (octet0 w)) (sq (octet1 w)) (sq (octet2 w)) (sq (octet3 w))
