-- The answer of opening an EPS message, as that of a 5GS open.
use Rattle.std.specs.Prelude.{ℕ, Result, Ok, Err}
use Rattle.refusals.specs.declared.Refusal.{Refusal}
use Rattle.refusals.specs.Numbers.{number_of}
use Rattle.nas_5gs.specs.declared.EpsReceived.{EpsReceived}
use Rattle.nas_5gs.specs.declared.OpenError.{OpenError}
use Rattle.nas_5gs.specs.declared.OpenError.TheVariants as error

pub data EpsOpenAnswer : Type 0 where
  Refused : ℕ → EpsOpenAnswer
  Accepted : (count distance wrote : ℕ) → EpsOpenAnswer
  Content : (count distance wrote number : ℕ) → EpsOpenAnswer

abbrev pub told_eps_open : Result EpsReceived (OpenError EpsReceived) → EpsOpenAnswer
told_eps_open (Ok m) = Accepted m.count m.distance m.wrote
told_eps_open (Err (error.Refused r)) = Refused (number_of r)
told_eps_open (Err (error.Content m r)) = Content m.count m.distance m.wrote (number_of r)
