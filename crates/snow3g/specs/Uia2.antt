-- Document 1 (TS 35.215) 4, UIA2; with FRESH from the bearer, TS 33.401 B.2.2 and TS 33.501 D.3.1.2 call it 128-EIA1 and 128-NIA1.
-- Assumes nothing.
use Rattle.std.specs.Prelude.{ℕ, zero, suc, ◌+◌, ◌-◌, ◌*◌, ◌/◌, ◌%◌, ◌^◌, cond, List, [], ◌∷◌, ◌++◌, length, take, drop, replicate, ◌==◌, bit_xor, nat_lt}
use Rattle.aes.specs.Octets.{octets, number}
use Rattle.streams.specs.Stream.{after}
use Rattle.snow3g.specs.declared.State.{State}
use Rattle.snow3g.specs.Keystream.{step, start, keyword}
use Rattle.snow3g.specs.Uea2.{key_words}

-- 4.3.2: v times x in 64 bits, where x^64 = c
unfoldable pub mul64x : ℕ → ℕ → ℕ
mul64x v c = cond (nat_lt v (2 ^ 63)) (v * 2) (bit_xor ((v - 2 ^ 63) * 2) c)

-- 4.3.3: i times
unfoldable pub mul64x_pow : ℕ → ℕ → ℕ → ℕ
mul64x_pow v zero c = v
mul64x_pow v (suc i) c = mul64x (mul64x_pow v i c) c

-- 4.3.4: the sum of v x^i for the bits i of p that are set, of the n low ones and of all 64
unfoldable pub mul64_to : ℕ → ℕ → ℕ → ℕ → ℕ
mul64_to v p c zero = 0
mul64_to v p c (suc n) = cond (p / 2 ^ n % 2 == 1) (bit_xor (mul64_to v p c n) (mul64x_pow v n c)) (mul64_to v p c n)

unfoldable pub mul64 : ℕ → ℕ → ℕ → ℕ
mul64 v p c = mul64_to v p c 64

-- 4.4: IV0 .. IV3
unfoldable pub code_iv : ℕ → ℕ → ℕ → List ℕ
code_iv count fresh direction = bit_xor fresh (direction % 2 * 2 ^ 15) ∷ bit_xor count (direction % 2 * 2 ^ 31) ∷ fresh ∷ count ∷ []

-- 4.5: block i of the message, filled with zeros
unfoldable pub block : List ℕ → ℕ → ℕ
block l i = number (take 8 (drop (i * 8) l ++ replicate 8 0))

-- 4.5: EVAL after n blocks
unfoldable pub eval : ℕ → List ℕ → ℕ → ℕ
eval p l zero = 0
eval p l (suc n) = mul64 (bit_xor (eval p l n) (block l n)) p 0x1B

-- 4.5: the block of the length in bits, times q
unfoldable pub closed : ℕ → ℕ → List ℕ → ℕ
closed p q l = mul64 (bit_xor (eval p l ((length l + 7) / 8)) (length l * 8 % 2 ^ 64)) q 0x1B

-- 4.4: word n of the keystream, counted from 0; P = z1 || z2, Q = z3 || z4, OTP = z5
unfoldable pub z : State → ℕ → ℕ
z m n = keyword (after step n m)

-- 4.5: the left half of EVAL, with OTP
unfoldable pub code_under : State → List ℕ → List ℕ
code_under m l = octets 4 (bit_xor (closed (z m 0 * 2 ^ 32 + z m 1) (z m 2 * 2 ^ 32 + z m 3) l / 2 ^ 32) (z m 4))

unfoldable pub uia2_of : List ℕ → ℕ → ℕ → ℕ → List ℕ → List ℕ
uia2_of key count fresh direction l = code_under (start (key_words key) (code_iv count fresh direction)) l

-- TS 33.401 B.2.2: FRESH is the bearer in its five leftmost bits
unfoldable pub nia1_of : List ℕ → ℕ → ℕ → ℕ → List ℕ → List ℕ
nia1_of key count bearer direction l = uia2_of key count (bearer % 32 * 2 ^ 27) direction l
