-- What a call on a 5GS context leaves, and document 01's values for each answer ("Refusal numbers").
use Rattle.std.specs.Prelude.{ℕ, true, false, List}
use Rattle.count.specs.Rule.{Opening}
use Rattle.nas_core.specs.Leaves.{Leaves as LeavesOf, used_with, received_as}
pub use Rattle.nas_core.specs.Leaves.{leaves, over, Values, refusal, success}
use Rattle.nas_5gs.specs.declared.Context.{Context}
use Rattle.nas_core.specs.ChangeAnswer.{ChangeAnswer}
use Rattle.nas_core.specs.ChangeAnswer as change
use Rattle.nas_core.specs.UseAnswer.{UseAnswer}
use Rattle.nas_core.specs.UseAnswer as use'
use Rattle.nas_5gs.specs.OpenAnswer.{OpenAnswer}
use Rattle.nas_5gs.specs.OpenAnswer as open'
use Rattle.nas_5gs.specs.EpsOpenAnswer.{EpsOpenAnswer}
use Rattle.nas_5gs.specs.EpsOpenAnswer as eps
use Rattle.nas_5gs.specs.OctetAnswer.{OctetAnswer}
use Rattle.nas_5gs.specs.OctetAnswer as octet
use Rattle.nas_5gs.specs.VerifyAnswer.{VerifyAnswer}
use Rattle.nas_5gs.specs.VerifyAnswer as verify
use Rattle.nas_5gs.specs.Places.{next_at, used, used_late}

abbrev pub Leaves : Type 0 → Type 0
Leaves A = LeavesOf Context A

-- of a call with a second lent output: the answer, the context, both outputs
pub data LeavesTwo (A : Type 0) : Type 0 where
  leaves_two : A → Context → List ℕ → List ℕ → LeavesTwo A

-- the next COUNT of the record at p used, and the octets that are made with it written
unfoldable pub use_next : Context → ℕ → (ℕ → List ℕ) → List ℕ → Leaves UseAnswer
use_next x p made out = used_with use'.Used (used x p) (next_at x p) (made (next_at x p)) out

-- a message received for the record at p, by what it is taken as
abbrev pub received : {R : Type 0} → Context → ℕ → (ℕ → R) → (ℕ → Context → R) → Opening → R
received x p refused handed o = received_as (used x p) (used_late x p) refused handed o

-- creation, restore, reselection, window size
abbrev pub change_values : ChangeAnswer → Values
change_values (change.Refused n) = refusal n
change_values change.Done = success

-- seals, S1-to-N1 containers
abbrev pub use_values : UseAnswer → Values
use_values (use'.Refused n) = refusal n
use_values (use'.Used c w) = record { refused = false; number = 0; uses = true; count = c; distance = 0; wrote = w; second = 0; header = 0; carried = 0; octet = 0 }

-- 5GS open
abbrev pub open_values : OpenAnswer → Values
open_values (open'.Refused n) = refusal n
open_values (open'.Accepted c f w t s) = record { refused = false; number = 0; uses = true; count = c; distance = f; wrote = w; second = s; header = t; carried = 0; octet = 0 }
open_values (open'.Content c f w t n) = record { refused = true; number = 8; uses = true; count = c; distance = f; wrote = w; second = 0; header = t; carried = n; octet = 0 }

-- EPS open
abbrev pub eps_open_values : EpsOpenAnswer → Values
eps_open_values (eps.Refused n) = refusal n
eps_open_values (eps.Accepted c f w) = record { refused = false; number = 0; uses = true; count = c; distance = f; wrote = w; second = 0; header = 0; carried = 0; octet = 0 }
eps_open_values (eps.Content c f w n) = record { refused = true; number = 8; uses = true; count = c; distance = f; wrote = w; second = 0; header = 0; carried = n; octet = 0 }

-- making the N1-to-S1 container: its one octet is answered as a number
abbrev pub octet_values : OctetAnswer → Values
octet_values (octet.Refused n) = refusal n
octet_values (octet.Made c o) = record { refused = false; number = 0; uses = true; count = c; distance = 0; wrote = 0; second = 0; header = 0; carried = 0; octet = o }

-- verifying it
abbrev pub verify_values : VerifyAnswer → Values
verify_values (verify.Refused n) = refusal n
verify_values (verify.Verified c f) = record { refused = false; number = 0; uses = true; count = c; distance = f; wrote = 0; second = 0; header = 0; carried = 0; octet = 0 }
