-- The answers of the EPS context's calls as one value.
use Rattle.std.specs.Prelude.{ℕ, List}
use Rattle.nas_eps.specs.Leaves.{Leaves, leaves}
use Rattle.nas_core.specs.ChangeAnswer.{ChangeAnswer}
use Rattle.nas_core.specs.ChangeAnswer as change
use Rattle.nas_core.specs.UseAnswer.{UseAnswer}
use Rattle.nas_core.specs.UseAnswer as use'
use Rattle.nas_eps.specs.OpenAnswer.{OpenAnswer}
use Rattle.nas_eps.specs.OpenAnswer as open'
use Rattle.hex_eps.specs.declared.Answer.{Answer}
use Rattle.hex_eps.specs.declared.Answer.TheVariants.{Done, Refused, Used, Opened, Request}

abbrev pub change_answer : ChangeAnswer → Answer
change_answer (change.Refused n) = Refused n
change_answer change.Done = Done

abbrev pub use_answer : UseAnswer → Answer
use_answer (use'.Refused n) = Refused n
use_answer (use'.Used c w) = Used c w

abbrev pub open_answer : OpenAnswer → Answer
open_answer (open'.Refused n) = Refused n
open_answer (open'.Accepted c d w t) = Opened c d w t
open_answer (open'.ServiceRequest c d i) = Request c d i

-- what a call leaves, with its answer as that value
abbrev pub writing : {A : Type 0} → (A → Answer) → Leaves A → Leaves Answer
writing f (leaves a x o) = leaves (f a) x o

-- an output that a call is not lent stays
abbrev pub keeping : {A : Type 0} → List ℕ → Leaves A → Leaves A
keeping out (leaves a x o) = leaves a x out
