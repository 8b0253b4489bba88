-- The answer of making the N1-to-S1 container: its COUNT and its one octet.
use Rattle.std.specs.Prelude.{ℕ, Result, Ok, Err}
use Rattle.refusals.specs.declared.Refusal.{Refusal}
use Rattle.refusals.specs.Numbers.{number_of}
use Rattle.nas_5gs.specs.declared.MadeOctet.{MadeOctet}

pub data OctetAnswer : Type 0 where
  Refused : ℕ → OctetAnswer
  Made : (count octet : ℕ) → OctetAnswer

abbrev pub told_octet : Result MadeOctet Refusal → OctetAnswer
told_octet (Ok m) = Made m.count m.octet
told_octet (Err r) = Refused (number_of r)
