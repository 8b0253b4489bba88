-- The answer of a creation, a restore, a reselection or a new window size (document 01, "Refusal numbers").
use Rattle.std.specs.Prelude.{ℕ, ⊤, Result, Ok, Err}
use Rattle.refusals.specs.declared.Refusal.{Refusal}
use Rattle.refusals.specs.Numbers.{number_of}

pub data ChangeAnswer : Type 0 where
  Refused : ℕ → ChangeAnswer
  Done : ChangeAnswer

abbrev pub told_change : Result ⊤ Refusal → ChangeAnswer
told_change (Ok _) = Done
told_change (Err r) = Refused (number_of r)
