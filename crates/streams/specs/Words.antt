-- Words of 32 bits, and the registers of sixteen that a machine moves by one word a turn.
-- Assumes nothing.
use Rattle.std.specs.Prelude.{ℕ, ◌+◌, ◌-◌, ◌*◌, ◌/◌, ◌%◌, ◌^◌, List, [], ◌∷◌, ◌++◌, map, slice_index}
use Rattle.aes.specs.Octets.{up_from}

-- x <<< k
abbrev pub turned : ℕ → ℕ → ℕ
turned x k = x % 2 ^ (32 - k) * 2 ^ k + x / 2 ^ (32 - k)

-- s1 .. s15 and v take the places of s0 .. s15
unfoldable pub shifted : List ℕ → ℕ → List ℕ
shifted s v = map (λ i. slice_index s i) (up_from 1 15) ++ (v ∷ [])
