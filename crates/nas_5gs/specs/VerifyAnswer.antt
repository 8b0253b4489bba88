-- The answer of verifying the N1-to-S1 container: the COUNT that it used and how many it skipped.
use Rattle.std.specs.Prelude.{ℕ, Result, Ok, Err}
use Rattle.refusals.specs.declared.Refusal.{Refusal}
use Rattle.refusals.specs.Numbers.{number_of}
use Rattle.nas_5gs.specs.declared.Reached.{Reached}

pub data VerifyAnswer : Type 0 where
  Refused : ℕ → VerifyAnswer
  Verified : (count distance : ℕ) → VerifyAnswer

abbrev pub told_verify : Result Reached Refusal → VerifyAnswer
told_verify (Ok v) = Verified v.count v.distance
told_verify (Err r) = Refused (number_of r)
