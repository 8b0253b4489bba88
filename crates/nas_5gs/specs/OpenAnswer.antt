-- The answer of a 5GS open: refused before any code is looked at or for want of one that is right, accepted, or refusal 8 with the number that it carries
-- (document 01, "Refusal numbers").
use Rattle.std.specs.Prelude.{ℕ, Result, Ok, Err}
use Rattle.refusals.specs.declared.Refusal.{Refusal}
use Rattle.refusals.specs.Numbers.{number_of}
use Rattle.nas_core.specs.declared.Received.{Received}
use Rattle.nas_5gs.specs.declared.Opened.{Opened}
use Rattle.nas_5gs.specs.declared.OpenError.{OpenError}
use Rattle.nas_5gs.specs.declared.OpenError.TheVariants as error

pub data OpenAnswer : Type 0 where
  Refused : ℕ → OpenAnswer
  Accepted : (count distance wrote header_type second : ℕ) → OpenAnswer
  Content : (count distance wrote header_type number : ℕ) → OpenAnswer

abbrev pub told_open : Result Opened (OpenError Received) → OpenAnswer
told_open (Ok o) = Accepted o.message.count o.message.distance o.message.wrote o.message.header_type o.second
told_open (Err (error.Refused r)) = Refused (number_of r)
told_open (Err (error.Content m r)) = Content m.count m.distance m.wrote m.header_type (number_of r)
