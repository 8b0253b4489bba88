-- Document 2 (TS 35.222) 3.2: the LFSR, sixteen cells of 31 bits, numbers from 1 to p = 2^31 - 1.
-- Assumes nothing.
use Rattle.std.specs.Prelude.{ℕ, ◌+◌, ◌-◌, ◌*◌, ◌%◌, ◌^◌, cond, List, ◌==◌, slice_index}
use Rattle.streams.specs.Words.{shifted}

abbrev pub p : ℕ
p = 2 ^ 31 - 1

-- a number modulo p; 0 is written as p
unfoldable pub cell : ℕ → ℕ
cell v = cond (v % p == 0) p (v % p)

-- 3.2: 2^15 s15 + 2^17 s13 + 2^21 s10 + 2^20 s4 + (1 + 2^8) s0 mod p
abbrev pub total : List ℕ → ℕ
total s = 2 ^ 15 * slice_index s 15 + 2 ^ 17 * slice_index s 13 + 2 ^ 21 * slice_index s 10 + 2 ^ 20 * slice_index s 4 + (1 + 2 ^ 8) * slice_index s 0

unfoldable pub feedback : List ℕ → ℕ
feedback s = total s % p

-- 3.2: s16 = v + u, in initialisation mode; working mode is that with u = 0. Then s1 .. s16 take the places of s0 .. s15
unfoldable pub shift : ℕ → List ℕ → List ℕ
shift u s = shifted s (cell (feedback s + u))
