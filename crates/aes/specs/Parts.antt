-- What private contracts speak of. No part of the standards.
-- Assumes nothing.
use Rattle.std.specs.Prelude.{ℕ, ◌-◌, ◌/◌, cond, List, ◌++◌, length, nat_lt, slice_index}
use Rattle.aes.specs.Octets.{octets}
use Rattle.aes.specs.Cmac.{block, last_block}

-- block i of what CMAC chains: the last one with its subkey
unfoldable pub chain_block : List ℕ → List ℕ → List ℕ → ℕ → List ℕ
chain_block k1 k2 m i = cond (nat_lt i ((length m - 1) / 16)) (block m i) (last_block k1 k2 (block m i))

-- the 16 octets that two numbers are
abbrev pub of_halves : List ℕ → List ℕ
of_halves h = octets 8 (slice_index h 0) ++ octets 8 (slice_index h 1)
