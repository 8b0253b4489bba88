-- What a loop over octets of a message does; no part of a specification.
-- Assumes nothing.
use Rattle.std.specs.Prelude.{List, ℕ, zero, suc, ◌+◌, get_or, set}
use Rattle.std.specs.Int.Bits.{bit_xor}

-- the n octets of l from i on, with those of k
unfoldable pub covered : List ℕ → ℕ → List ℕ → ℕ → List ℕ
covered l i k zero = l
covered l i k (suc n) = set (covered l i k n) (i + n) (bit_xor (get_or (covered l i k n) (i + n) 0) (get_or k n 0))
