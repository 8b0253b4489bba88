-- Document 2 (TS 35.222) 3.4.1, by the rules of the design report: S0 by three maps of four bits, S1 by the inverse in GF(2^8) modulo
-- x^8 + x^7 + x^3 + x + 1 and an affine map.
-- Assumes nothing.
use Rattle.std.specs.Prelude.{ℕ, zero, suc, ◌+◌, ◌*◌, ◌/◌, ◌%◌, List, [], ◌∷◌, map, bit_xor, slice_index}
use Rattle.aes.specs.Octets.{below}
use Rattle.streams.specs.Field.{times}
use Rattle.zuc.specs.Words.{bits}

-- P1, P2 and P3
abbrev pub p1 : List ℕ
p1 = 0x9 ∷ 0xf ∷ 0x0 ∷ 0xe ∷ 0xf ∷ 0xf ∷ 0x2 ∷ 0xa ∷ 0x0 ∷ 0x4 ∷ 0x0 ∷ 0xc ∷ 0x7 ∷ 0x5 ∷ 0x3 ∷ 0x9 ∷ []

abbrev pub p2 : List ℕ
p2 = 0x8 ∷ 0xd ∷ 0x6 ∷ 0x5 ∷ 0x7 ∷ 0x0 ∷ 0xc ∷ 0x4 ∷ 0xb ∷ 0x1 ∷ 0xe ∷ 0xa ∷ 0xf ∷ 0x3 ∷ 0x9 ∷ 0x2 ∷ []

abbrev pub p3 : List ℕ
p3 = 0x2 ∷ 0x6 ∷ 0xa ∷ 0x6 ∷ 0x0 ∷ 0xd ∷ 0xa ∷ 0xf ∷ 0x3 ∷ 0x3 ∷ 0xd ∷ 0x5 ∷ 0x0 ∷ 0x9 ∷ 0xc ∷ 0xd ∷ []

-- three rounds on the halves h and l of an octet: q = h ⊕ P1(l), r = l ⊕ P2(q), t = q ⊕ P3(r)
abbrev pub q : ℕ → ℕ → ℕ
q h l = bit_xor h (slice_index p1 l)

abbrev pub r : ℕ → ℕ → ℕ
r h l = bit_xor l (slice_index p2 (q h l))

abbrev pub t : ℕ → ℕ → ℕ
t h l = bit_xor (q h l) (slice_index p3 (r h l))

-- an octet rotated left by 5
abbrev pub turned5 : ℕ → ℕ
turned5 x = x % 8 * 32 + x / 8

-- S0(x) = (t || r) <<< 5
unfoldable pub s0 : ℕ → ℕ
s0 x = turned5 (t (x / 16) (x % 16) * 16 + r (x / 16) (x % 16))

-- the product of the n squares a, a^2, a^4, .., modulo x^8 + x^7 + x^3 + x + 1
unfoldable pub squares : ℕ → ℕ → ℕ
squares zero a = 1
squares (suc n) a = times 0x8B a (squares n (times 0x8B a a))

-- the inverse of a is a^254 = a^2 • a^4 • a^8 • .. • a^128; that of 0 is 0
unfoldable pub inverse : ℕ → ℕ
inverse a = squares 7 (times 0x8B a a)

-- M, its top row for bit 7 of the result and its left column for y7
abbrev pub matrix : List (List ℕ)
matrix =
    (0 ∷ 1 ∷ 1 ∷ 1 ∷ 1 ∷ 0 ∷ 0 ∷ 1 ∷ []) ∷
    (1 ∷ 0 ∷ 1 ∷ 1 ∷ 1 ∷ 1 ∷ 0 ∷ 0 ∷ []) ∷
    (1 ∷ 1 ∷ 0 ∷ 1 ∷ 0 ∷ 1 ∷ 1 ∷ 0 ∷ []) ∷
    (1 ∷ 1 ∷ 1 ∷ 0 ∷ 0 ∷ 0 ∷ 1 ∷ 1 ∷ []) ∷
    (0 ∷ 1 ∷ 1 ∷ 1 ∷ 1 ∷ 1 ∷ 1 ∷ 0 ∷ []) ∷
    (1 ∷ 0 ∷ 1 ∷ 1 ∷ 0 ∷ 1 ∷ 1 ∷ 1 ∷ []) ∷
    (1 ∷ 1 ∷ 0 ∷ 1 ∷ 1 ∷ 0 ∷ 1 ∷ 1 ∷ []) ∷
    (1 ∷ 1 ∷ 1 ∷ 0 ∷ 1 ∷ 1 ∷ 0 ∷ 1 ∷ []) ∷ []

-- a row times a column of bits
abbrev pub dot : List ℕ → List ℕ → ℕ
dot [] b = 0
dot (x ∷ a) [] = 0
dot (x ∷ a) (y ∷ b) = x * y + dot a b

-- the octet whose bits a matrix makes of those of y, after the bits that write n
abbrev pub mapped : List (List ℕ) → ℕ → ℕ → ℕ
mapped [] y n = n
mapped (row ∷ rows) y n = mapped rows y (n * 2 + dot row (bits 8 y) % 2)

-- S1(x) = M·y ⊕ 55
unfoldable pub s1 : ℕ → ℕ
s1 x = bit_xor (mapped matrix (inverse x) 0) 0x55

-- their tables
unfoldable pub s0_table : List ℕ
s0_table = map s0 (below 256)

unfoldable pub s1_table : List ℕ
s1_table = map s1 (below 256)
