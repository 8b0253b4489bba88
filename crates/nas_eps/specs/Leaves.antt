-- What a call on an EPS context leaves, and document 01's values for each answer ("Refusal numbers").
use Rattle.std.specs.Prelude.{ℕ, true, false, List}
use Rattle.count.specs.Rule.{Opening}
use Rattle.nas_core.specs.Leaves.{Leaves as LeavesOf, used_with, received_as}
pub use Rattle.nas_core.specs.Leaves.{leaves, over, Values, refusal, success}
use Rattle.nas_eps.specs.declared.Context.{Context}
use Rattle.nas_core.specs.ChangeAnswer.{ChangeAnswer}
use Rattle.nas_core.specs.ChangeAnswer as change
use Rattle.nas_core.specs.UseAnswer.{UseAnswer}
use Rattle.nas_core.specs.UseAnswer as use'
use Rattle.nas_eps.specs.OpenAnswer.{OpenAnswer}
use Rattle.nas_eps.specs.OpenAnswer as open'
use Rattle.nas_eps.specs.Places.{next_at, used, used_late}

abbrev pub Leaves : Type 0 → Type 0
Leaves A = LeavesOf Context A

-- the next COUNT of the record at p used, and the octets that are made with it written
unfoldable pub use_next : Context → ℕ → (ℕ → List ℕ) → List ℕ → Leaves UseAnswer
use_next x p made out = used_with use'.Used (used x p) (next_at x p) (made (next_at x p)) out

-- a message received for the record at p, by what it is taken as
abbrev pub received : {A : Type 0} → Context → ℕ → (ℕ → Leaves A) → (ℕ → Context → Leaves A) → Opening → Leaves A
received x p refused handed o = received_as (used x p) (used_late x p) refused handed o

-- creation, restore, reselection, window size
abbrev pub change_values : ChangeAnswer → Values
change_values (change.Refused n) = refusal n
change_values change.Done = success

-- both seals
abbrev pub use_values : UseAnswer → Values
use_values (use'.Refused n) = refusal n
use_values (use'.Used c w) = record { refused = false; number = 0; uses = true; count = c; distance = 0; wrote = w; second = 0; header = 0; carried = 0; octet = 0 }

-- open; the number that a SERVICE REQUEST carries is its identifier, its header type is 12, and it writes no octet
abbrev pub open_values : OpenAnswer → Values
open_values (open'.Refused n) = refusal n
open_values (open'.Accepted c f w t) = record { refused = false; number = 0; uses = true; count = c; distance = f; wrote = w; second = 0; header = t; carried = 0; octet = 0 }
open_values (open'.ServiceRequest c f i) = record { refused = false; number = 0; uses = true; count = c; distance = f; wrote = 0; second = 0; header = 12; carried = i; octet = 0 }
