-- The answer of a call that sends: the COUNT that it used, and how many octets it wrote (document 01, "Refusal numbers").
use Rattle.std.specs.Prelude.{ℕ, Result, Ok, Err}
use Rattle.refusals.specs.declared.Refusal.{Refusal}
use Rattle.refusals.specs.Numbers.{number_of}
use Rattle.nas_core.specs.declared.Spent.{Spent}

pub data UseAnswer : Type 0 where
  Refused : ℕ → UseAnswer
  Used : (count wrote : ℕ) → UseAnswer

abbrev pub told_use : Result Spent Refusal → UseAnswer
told_use (Ok u) = Used u.count u.wrote
told_use (Err r) = Refused (number_of r)
