-- An EPS context's two records, uplink and downlink, and a COUNT used in one of them (request 6).
use Rattle.std.specs.Prelude.{ℕ, List, [], ◌∷◌, get_or, set}
use Rattle.count.specs.Rule.{use_late}
use Rattle.count.specs.declared.Record.{Record}
use Rattle.refusals.specs.Order.{◌when◌, first}
use Rattle.nas_core.specs.Refusals.{core_fault, any_over}
use Rattle.nas_core.specs.Types.{direction_no}
use Rattle.nas_core.specs.Verify.{advanced}
use Rattle.nas_core.specs.declared.Direction.{Direction}
use Rattle.nas_eps.specs.declared.Context.{Context}

-- a record's place is its direction's number
abbrev pub uplink : ℕ
uplink = 0

abbrev pub downlink : ℕ
downlink = 1

abbrev pub place_of : Direction → ℕ
place_of = direction_no

abbrev pub two : {A : Type 0} → (ℕ → A) → List A
two f = f 0 ∷ f 1 ∷ []

abbrev pub no_record : Record
no_record = record { next = 0; bits = 0 }

abbrev pub record_at : Context → ℕ → Record
record_at x p = get_or x.records p no_record

abbrev pub next_at : Context → ℕ → ℕ
next_at x p = (record_at x p).next

abbrev pub with_record : Context → ℕ → Record → Context
with_record x p r = record { core = x.core; records = set x.records p r }

-- the context itself, before all else: 13, 14, 16
abbrev pub context_refusals : Context → List ℕ
context_refusals x = core_fault x.core ∷ 16 when any_over (two (next_at x)) ∷ []

unfoldable pub fault_of : Context → ℕ
fault_of x = first (context_refusals x)

-- COUNT c used forward, and late, in the record at p
unfoldable pub used : Context → ℕ → ℕ → Context
used x p c = with_record x p (advanced x.core (record_at x p) c)

unfoldable pub used_late : Context → ℕ → ℕ → Context
used_late x p c = with_record x p (use_late (record_at x p) c)
