-- What holds of the calls: stated here, proved in proofs/Laws.antt.
use Rattle.std.specs.Prelude.{ℕ, ◌<◌, ◌≡◌, List, [], ◌∷◌, ◌++◌, length}
use Rattle.journal_calls.specs.declared.Call.{Call}
use Rattle.journal_calls.specs.declared.Call.TheVariants.{Unknown, New, Restore, Reselect, Window, Seal, Opaque, Open, EpsSeal, EpsOpen, N1ToS1, VerifyN1ToS1, S1ToN1, VerifyS1ToN1, Initial}
use Rattle.journal_calls.specs.Fields.{key_at, counts_in, counts_of}
use Rattle.journal_calls.specs.Calls.{kind_of, front_of, call_of, rest_of}

-- a place and a connection that there is
abbrev pub Places : Call → Type 0
Places Unknown = Unit {0}
Places (New i c) = Unit {0}
Places (Restore i c) = Unit {0}
Places (Reselect i c) = Unit {0}
Places (Window n) = Unit {0}
Places (Seal t p r) = p < 4
Places (Opaque t p r) = p < 4
Places (Open p r s) = p < 4
Places (EpsSeal r) = Unit {0}
Places (EpsOpen r) = Unit {0}
Places N1ToS1 = Unit {0}
Places (VerifyN1ToS1 o) = Unit {0}
Places (S1ToN1 n k r) = Unit {0}
Places VerifyS1ToN1 = Unit {0}
Places (Initial c r) = c < 2

-- the bytes of a call read as the same call
pub record Back (c : Call) (rest : List ℕ) : Type 0 where
  pub call : call_of (kind_of c) (front_of c ++ rest) ≡ c
  pub rest' : rest_of (kind_of c) (front_of c ++ rest) ≡ rest

-- and the keys and next COUNTs as the same
pub record State (ik ck next : List ℕ) : Type 0 where
  pub integrity : (l : List ℕ) → key_at (ik ++ (ck ++ l)) 0 ≡ ik
  pub ciphering : (l : List ℕ) → key_at (ik ++ (ck ++ l)) 16 ≡ ck
  pub counts : counts_in (ik ++ (ck ++ counts_of next)) ≡ next

pub record Laws : Type 0 where
  pub back : (c : Call) (rest : List ℕ) → Places c → Back c rest
  pub state : (ik ck : List ℕ) (a b c d : ℕ) → length ik ≡ 16 → length ck ≡ 16 → State ik ck (a ∷ b ∷ c ∷ d ∷ [])
