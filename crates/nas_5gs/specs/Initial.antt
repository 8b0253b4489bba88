-- Sealing an initial message with its container (document 02, item 9).
use Rattle.std.specs.Prelude.{ℕ, not, List, ◌∷◌, length}
use Rattle.refusals.specs.Order.{◌when◌, first, refused_or}
use Rattle.nas_core.specs.Refusals.{send_refusals}
use Rattle.initial.specs.Messages.{is_initial}
use Rattle.initial.specs.Outer.{is_hideable, outer_length}
use Rattle.envelope.specs.Initial.{initial_envelope}
use Rattle.nas_core.specs.declared.Direction.TheVariants.{Uplink}
use Rattle.nas_5gs.specs.declared.Connection.{Connection}
use Rattle.nas_5gs.specs.declared.Context.{Context}
use Rattle.nas_core.specs.UseAnswer.{UseAnswer, Refused}
use Rattle.nas_5gs.specs.Places.{bearer_no, place_of, next_at, fault_of}
use Rattle.nas_5gs.specs.Leaves.{Leaves, leaves, use_next}

-- initial seal: 9, 18, 4, 5, 6
abbrev pub initial_refusals : Context → ℕ → List ℕ → ℕ → List ℕ
initial_refusals x p w room =
    fault_of x ∷ 9 when not (is_initial w) ∷ 18 when not (is_hideable w) ∷ send_refusals 7 (outer_length w) room (next_at x p)

unfoldable pub initial_refusal : Context → ℕ → List ℕ → ℕ → ℕ
initial_refusal x p w room = first (initial_refusals x p w room)

-- not refused: under the next COUNT of the record at p
unfoldable pub sent_initial : Context → ℕ → ℕ → List ℕ → List ℕ → Leaves UseAnswer
sent_initial x p b w out = use_next x p (λ c. initial_envelope x.core c b w) out

unfoldable pub initial_of : Context → Connection → List ℕ → List ℕ → Leaves UseAnswer
initial_of x k w out =
    refused_or (initial_refusal x (place_of Uplink k) w (length out))
    (λ n. leaves (Refused n) x out)
    (sent_initial x (place_of Uplink k) (bearer_no k) w out)
