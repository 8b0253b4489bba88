-- Document 2 (TS 35.216) 4: initialisation and the keystream.
-- Assumes nothing.
use Rattle.std.specs.Prelude.{ℕ, List, [], ◌∷◌, bit_xor, slice_index, slice_index_or}
use Rattle.streams.specs.Stream.{after}
use Rattle.snow3g.specs.declared.State.{State}
use Rattle.snow3g.specs.Machine.{at, output, clock}

-- k with each of its 32 bits changed
abbrev pub not : ℕ → ℕ
not k = bit_xor k 0xFFFFFFFF

-- 4.1: the register from the key k and the initialisation variable iv
unfoldable pub load : List ℕ → List ℕ → State
load k iv =
    let k0 = slice_index_or k 0 0 in
    let k1 = slice_index_or k 1 0 in
    let k2 = slice_index_or k 2 0 in
    let k3 = slice_index_or k 3 0 in
    record {
      s =
          not k0 ∷ not k1 ∷ not k2 ∷ not k3 ∷
          k0 ∷ k1 ∷ k2 ∷ k3 ∷
          not k0 ∷ bit_xor (not k1) (slice_index iv 3) ∷ bit_xor (not k2) (slice_index iv 2) ∷ not k3 ∷
          bit_xor k0 (slice_index iv 1) ∷ k1 ∷ k2 ∷ bit_xor k3 (slice_index iv 0) ∷ [];
      r1 = 0;
      r2 = 0;
      r3 = 0;
    }

-- 4.1: a round of initialisation, with the output fed back
unfoldable pub initialise : State → State
initialise m = clock m (output m)

-- 4.2: a round in keystream mode
unfoldable pub step : State → State
step m = clock m 0

-- 4.1: 32 rounds of initialisation; 4.2: the round whose output is dropped
unfoldable pub start : List ℕ → List ℕ → State
start k iv = step (after initialise 32 (load k iv))

-- 4.2: z, the keystream's word at a state
unfoldable pub keyword : State → ℕ
keyword m = bit_xor (output m) (at m 0)
