-- Document 2 (TS 35.222) 3.5 and 3.6: key loading, initialisation and the key stream.
-- Assumes nothing.
use Rattle.std.specs.Prelude.{ℕ, ◌+◌, ◌*◌, ◌/◌, ◌^◌, List, [], ◌∷◌, bit_xor, slice_index}
use Rattle.aes.specs.Octets.{sixteen}
use Rattle.streams.specs.Stream.{after}
use Rattle.zuc.specs.declared.State.{State}
use Rattle.zuc.specs.Register.{shift}
use Rattle.zuc.specs.Nonlinear.{x3, w, r1_of, r2_of}

-- 3.5: d_0 .. d_15
abbrev pub constants : List ℕ
constants =
    0x44d7 ∷ 0x26bc ∷ 0x626b ∷ 0x135e ∷ 0x5789 ∷ 0x35e2 ∷ 0x7135 ∷ 0x09af ∷
    0x4d78 ∷ 0x2f13 ∷ 0x6bc4 ∷ 0x1af1 ∷ 0x5e26 ∷ 0x3c4d ∷ 0x789a ∷ 0x47ac ∷ []

-- 3.5: s_i = k_i || d_i || iv_i, of 8, 15 and 8 bits; R1 = R2 = 0
unfoldable pub load : List ℕ → List ℕ → State
load key iv = record { cells = sixteen (λ i. slice_index key i * 2 ^ 23 + slice_index constants i * 2 ^ 8 + slice_index iv i); r1 = 0; r2 = 0 }

-- one turn: F's registers, and the LFSR with u
unfoldable pub clock : ℕ → State → State
clock u x = record { cells = shift u x.cells; r1 = r1_of x; r2 = r2_of x }

-- 3.6.1: the LFSR in initialisation mode with u = W >> 1
unfoldable pub initialise : State → State
initialise x = clock (w x / 2) x

-- 3.6.2: the LFSR in working mode
unfoldable pub work : State → State
work x = clock 0 x

-- 3.6: 32 turns of initialisation, and one whose W is dropped
unfoldable pub start : List ℕ → List ℕ → State
start key iv = work (after initialise 32 (load key iv))

-- 3.6.2: Z = F(X0, X1, X2) ⊕ X3
unfoldable pub word : State → ℕ
word x = bit_xor (w x) (x3 x.cells)
