-- The answers of the library's calls as one value.
use Rattle.std.specs.Prelude.{ℕ, List}
use Rattle.nas_5gs.specs.Places.{bearer_no}
use Rattle.nas_5gs.specs.Leaves.{Leaves, leaves, LeavesTwo, leaves_two}
use Rattle.handover.specs.Across.{LeavesAcross, leaves_across}
use Rattle.nas_core.specs.ChangeAnswer.{ChangeAnswer}
use Rattle.nas_core.specs.ChangeAnswer as change
use Rattle.nas_core.specs.UseAnswer.{UseAnswer}
use Rattle.nas_core.specs.UseAnswer as use'
use Rattle.nas_5gs.specs.OctetAnswer.{OctetAnswer}
use Rattle.nas_5gs.specs.OctetAnswer as octet
use Rattle.nas_5gs.specs.OpenAnswer.{OpenAnswer}
use Rattle.nas_5gs.specs.OpenAnswer as open'
use Rattle.nas_5gs.specs.EpsOpenAnswer.{EpsOpenAnswer}
use Rattle.nas_5gs.specs.EpsOpenAnswer as eps
use Rattle.nas_5gs.specs.VerifyAnswer.{VerifyAnswer}
use Rattle.nas_5gs.specs.VerifyAnswer as verify
use Rattle.hex_perform.specs.declared.Answer.{Answer}
use Rattle.hex_perform.specs.declared.Answer.TheVariants.{Done, Refused, Used, Made, Opened, Content, EpsContent, Received, OpenedOn, ContentOn}

abbrev pub change_answer : ChangeAnswer → Answer
change_answer (change.Refused n) = Refused n
change_answer change.Done = Done

abbrev pub use_answer : UseAnswer → Answer
use_answer (use'.Refused n) = Refused n
use_answer (use'.Used c w) = Used c w

abbrev pub octet_answer : OctetAnswer → Answer
octet_answer (octet.Refused n) = Refused n
octet_answer (octet.Made c o) = Made c o

abbrev pub open_answer : OpenAnswer → Answer
open_answer (open'.Refused n) = Refused n
open_answer (open'.Accepted c d w t s) = Opened c d w t s
open_answer (open'.Content c d w t n) = Content c d w t n

-- with the digit of the connection that the message was taken on
abbrev pub across_answer : ℕ → OpenAnswer → Answer
across_answer k (open'.Refused n) = Refused n
across_answer k (open'.Accepted c d w t s) = OpenedOn k c d w t s
across_answer k (open'.Content c d w t n) = ContentOn k c d w t n

abbrev pub eps_answer : EpsOpenAnswer → Answer
eps_answer (eps.Refused n) = Refused n
eps_answer (eps.Accepted c d w) = Received c d w
eps_answer (eps.Content c d w n) = EpsContent c d w n

abbrev pub verify_answer : VerifyAnswer → Answer
verify_answer (verify.Refused n) = Refused n
verify_answer (verify.Verified c d) = Received c d 0

-- what a call leaves, with its answer as that value
abbrev pub writing : {A : Type 0} → (A → Answer) → Leaves A → Leaves Answer
writing f (leaves a x o) = leaves (f a) x o

abbrev pub writing_two : {A : Type 0} → (A → Answer) → LeavesTwo A → LeavesTwo Answer
writing_two f (leaves_two a x o s) = leaves_two (f a) x o s

abbrev pub writing_across : LeavesAcross → LeavesTwo Answer
writing_across (leaves_across k a x o s) = leaves_two (across_answer (bearer_no k) a) x o s

-- beside it what it is not lent stays: the second output, or both
abbrev pub beside : {A : Type 0} → List ℕ → Leaves A → LeavesTwo A
beside second (leaves a x o) = leaves_two a x o second

abbrev pub keeping : {A : Type 0} → List ℕ → List ℕ → Leaves A → LeavesTwo A
keeping out second (leaves a x o) = leaves_two a x out second
