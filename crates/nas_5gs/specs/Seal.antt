-- Sealing (document 01, "Refusal numbers", Order).
use Rattle.std.specs.Prelude.{ℕ, List, ◌∷◌, length}
use Rattle.refusals.specs.Order.{◌when◌, first, refused_or}
use Rattle.nas_core.specs.Refusals.{send_refusals}
use Rattle.look.specs.Look.{not_known, not_together, wrong_way}
use Rattle.nas_core.specs.declared.Direction.{Direction}
use Rattle.nas_5gs.specs.declared.Connection.{Connection}
use Rattle.nas_5gs.specs.declared.Context.{Context}
use Rattle.nas_core.specs.UseAnswer.{UseAnswer, Refused}
use Rattle.nas_5gs.specs.Places.{direction_no, bearer_no, place_of, next_at, fault_of}
use Rattle.nas_5gs.specs.Leaves.{Leaves, leaves, use_next}
use Rattle.nas_5gs.specs.Envelope.{wrong_type, envelope}

-- seal: 9, 3, 10, 11, 4, 5, 6
abbrev pub seal_refusals : Context → ℕ → ℕ → ℕ → List ℕ → ℕ → List ℕ
seal_refusals x t p d inner room =
    fault_of x ∷ 9 when not_known inner ∷ 3 when wrong_type t ∷ 10 when not_together t inner ∷ 11 when wrong_way d inner ∷ send_refusals 7 (length inner) room (next_at x p)

unfoldable pub seal_refusal : Context → ℕ → ℕ → ℕ → List ℕ → ℕ → ℕ
seal_refusal x t p d inner room = first (seal_refusals x t p d inner room)

-- opaque seal, which skips the look: 3, 4, 5, 6
abbrev pub opaque_refusals : Context → ℕ → ℕ → List ℕ → ℕ → List ℕ
opaque_refusals x t p inner room = fault_of x ∷ 3 when wrong_type t ∷ send_refusals 7 (length inner) room (next_at x p)

unfoldable pub opaque_refusal : Context → ℕ → ℕ → List ℕ → ℕ → ℕ
opaque_refusal x t p inner room = first (opaque_refusals x t p inner room)

-- not refused: the envelope under the next COUNT of the record at p
unfoldable pub sent : Context → ℕ → ℕ → ℕ → ℕ → List ℕ → List ℕ → Leaves UseAnswer
sent x t p b d inner out = use_next x p (λ c. envelope x.core t c b d inner) out

unfoldable pub seal_of : Context → ℕ → Direction → Connection → List ℕ → List ℕ → Leaves UseAnswer
seal_of x t d k inner out =
    refused_or (seal_refusal x t (place_of d k) (direction_no d) inner (length out))
    (λ n. leaves (Refused n) x out)
    (sent x t (place_of d k) (bearer_no k) (direction_no d) inner out)

unfoldable pub seal_opaque_of : Context → ℕ → Direction → Connection → List ℕ → List ℕ → Leaves UseAnswer
seal_opaque_of x t d k inner out =
    refused_or (opaque_refusal x t (place_of d k) inner (length out))
    (λ n. leaves (Refused n) x out)
    (sent x t (place_of d k) (bearer_no k) (direction_no d) inner out)
