-- A context's four records (document 01, "Words"), the numbers of direction and connection, and a COUNT used in one record.
use Rattle.std.specs.Prelude.{ℕ, List, [], ◌∷◌, get_or, set}
use Rattle.count.specs.Rule.{use_late}
use Rattle.count.specs.declared.Record.{Record}
use Rattle.refusals.specs.Order.{◌when◌, first}
use Rattle.nas_core.specs.Refusals.{core_fault}
pub use Rattle.nas_core.specs.Refusals.{any_over}
pub use Rattle.nas_core.specs.Types.{direction_no}
use Rattle.nas_core.specs.Verify.{advanced}
use Rattle.nas_core.specs.declared.Direction.{Direction}
use Rattle.nas_core.specs.declared.Direction.TheVariants.{Uplink, Downlink}
use Rattle.nas_5gs.specs.declared.Connection.{Connection}
use Rattle.nas_5gs.specs.declared.Connection.TheVariants.{ThreeGpp, Non3Gpp}
use Rattle.nas_5gs.specs.declared.Context.{Context}

-- the bearer input of the algorithms is the connection's number
abbrev pub bearer_no : Connection → ℕ
bearer_no ThreeGpp = 1
bearer_no Non3Gpp = 2

abbrev pub place_of : Direction → Connection → ℕ
place_of Uplink ThreeGpp = 0
place_of Downlink ThreeGpp = 1
place_of Uplink Non3Gpp = 2
place_of Downlink Non3Gpp = 3

abbrev pub four : {A : Type 0} → (ℕ → A) → List A
four f = f 0 ∷ f 1 ∷ f 2 ∷ f 3 ∷ []

abbrev pub no_record : Record
no_record = record { next = 0; bits = 0 }

abbrev pub record_at : Context → ℕ → Record
record_at x p = get_or x.records p no_record

abbrev pub next_at : Context → ℕ → ℕ
next_at x p = (record_at x p).next

abbrev pub with_record : Context → ℕ → Record → Context
with_record x p r = record { core = x.core; records = set x.records p r }

-- the context itself, before all else: 13, 14, 16
abbrev pub context_refusals : Context → List ℕ
context_refusals x = core_fault x.core ∷ 16 when any_over (four (next_at x)) ∷ []

unfoldable pub fault_of : Context → ℕ
fault_of x = first (context_refusals x)

-- COUNT c used forward, and late, in the record at p
unfoldable pub used : Context → ℕ → ℕ → Context
used x p c = with_record x p (advanced x.core (record_at x p) c)

unfoldable pub used_late : Context → ℕ → ℕ → Context
used_late x p c = with_record x p (use_late (record_at x p) c)
