-- The tables that the code works with; no part of the specification.
-- Assumes nothing.
use Rattle.std.specs.Prelude.{ℕ, List, map, bit_xor, slice_index}
use Rattle.aes.specs.Octets.{below}
use Rattle.snow3g.specs.Words.{word, octet0, octet1, octet2, octet3, xor4}
use Rattle.streams.specs.Words.{turned}
use Rattle.streams.specs.Field.{mulx}
use Rattle.snow3g.specs.Field.{mul_alpha, div_alpha}
use Rattle.snow3g.specs.Boxes.{sr, sq}
use Rattle.snow3g.specs.Uia2.{mul64x, mul64}

-- what the first octet a adds to a mixed word
unfoldable pub column : ℕ → ℕ → ℕ
column c a = word (mulx a c) (bit_xor (mulx a c) a) a a

unfoldable pub s1_table : List ℕ
s1_table = map (λ x. column 0x1B (sr x)) (below 256)

unfoldable pub s2_table : List ℕ
s2_table = map (λ x. column 0x69 (sq x)) (below 256)

unfoldable pub mul_table : List ℕ
mul_table = map mul_alpha (below 256)

unfoldable pub div_table : List ℕ
div_table = map div_alpha (below 256)

-- a box on words, by the table t of what one octet adds: what the next ones add is turned right by one, two and three octets
abbrev pub by_table : List ℕ → ℕ → ℕ
by_table t w =
    xor4
    (slice_index t (octet0 w))
    (turned (slice_index t (octet1 w)) 24)
    (turned (slice_index t (octet2 w)) 16)
    (turned (slice_index t (octet3 w)) 8)

-- four times by x in 64 bits
unfoldable pub x4 : ℕ → ℕ
x4 v = mul64x (mul64x (mul64x (mul64x v 0x1B) 0x1B) 0x1B) 0x1B

-- the products of p with 0 .. 15
unfoldable pub multiples : ℕ → List ℕ
multiples p = map (λ n. mul64 n p 0x1B) (below 16)
