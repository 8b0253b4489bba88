-- The answer of an open: a message, or a SERVICE REQUEST with its identifier (document 01, "Refusal numbers"; request 6).
use Rattle.std.specs.Prelude.{ℕ, Result, Ok, Err}
use Rattle.refusals.specs.declared.Refusal.{Refusal}
use Rattle.refusals.specs.Numbers.{number_of}
use Rattle.nas_eps.specs.declared.Opened.{Opened}
use Rattle.nas_eps.specs.declared.Opened.TheVariants as opened

pub data OpenAnswer : Type 0 where
  Refused : ℕ → OpenAnswer
  Accepted : (count distance wrote header_type : ℕ) → OpenAnswer
  ServiceRequest : (count distance identifier : ℕ) → OpenAnswer

abbrev pub told_open : Result Opened Refusal → OpenAnswer
told_open (Ok (opened.Message m)) = Accepted m.count m.distance m.wrote m.header_type
told_open (Ok (opened.ServiceRequest c d i)) = ServiceRequest c d i
told_open (Err r) = Refused (number_of r)
