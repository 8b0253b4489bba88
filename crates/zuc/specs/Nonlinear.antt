-- Document 2 (TS 35.222) 3.3 and 3.4: the bit reorganisation, and F.
-- Assumes nothing.
use Rattle.std.specs.Prelude.{ℕ, ◌/◌, ◌%◌, ◌^◌, List, [], ◌∷◌, bit_xor, slice_index}
use Rattle.aes.specs.Octets.{number}
use Rattle.zuc.specs.declared.State.{State}
use Rattle.streams.specs.Words.{turned}
use Rattle.zuc.specs.Words.{joined, sum}
use Rattle.zuc.specs.Boxes.{s0, s1}

-- sH and sL of cell i: its 16 leftmost bits of 31, and its 16 rightmost
abbrev pub high : List ℕ → ℕ → ℕ
high s i = slice_index s i / 2 ^ 15 % 2 ^ 16

abbrev pub low : List ℕ → ℕ → ℕ
low s i = slice_index s i % 2 ^ 16

-- 3.3
unfoldable pub x0 : List ℕ → ℕ
x0 s = joined (high s 15) (low s 14)

unfoldable pub x1 : List ℕ → ℕ
x1 s = joined (low s 11) (high s 9)

unfoldable pub x2 : List ℕ → ℕ
x2 s = joined (low s 7) (high s 5)

unfoldable pub x3 : List ℕ → ℕ
x3 s = joined (low s 2) (high s 0)

-- 3.4.1: the four octets through S0, S1, S0, S1
unfoldable pub boxes : ℕ → ℕ
boxes x = number (s0 (x / 2 ^ 24 % 256) ∷ s1 (x / 2 ^ 16 % 256) ∷ s0 (x / 2 ^ 8 % 256) ∷ s1 (x % 256) ∷ [])

-- 3.4.2
unfoldable pub l1 : ℕ → ℕ
l1 x = bit_xor (bit_xor (bit_xor (bit_xor x (turned x 2)) (turned x 10)) (turned x 18)) (turned x 24)

unfoldable pub l2 : ℕ → ℕ
l2 x = bit_xor (bit_xor (bit_xor (bit_xor x (turned x 8)) (turned x 14)) (turned x 22)) (turned x 30)

-- 3.4: W, W1 and W2
unfoldable pub w : State → ℕ
w x = sum (bit_xor (x0 x.cells) x.r1) x.r2

unfoldable pub w1 : State → ℕ
w1 x = sum x.r1 (x1 x.cells)

unfoldable pub w2 : State → ℕ
w2 x = bit_xor x.r2 (x2 x.cells)

-- 3.4: R1 = S(L1(W1L || W2H)), R2 = S(L2(W2L || W1H))
unfoldable pub r1_of : State → ℕ
r1_of x = boxes (l1 (joined (w1 x % 2 ^ 16) (w2 x / 2 ^ 16)))

unfoldable pub r2_of : State → ℕ
r2_of x = boxes (l2 (joined (w2 x % 2 ^ 16) (w1 x / 2 ^ 16)))
