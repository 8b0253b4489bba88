-- Sealing (request 6, "The context and its calls").
use Rattle.std.specs.Prelude.{ℕ, List, [], ◌∷◌, length, ltb, leb}
use Rattle.count.specs.Rule.{exhausted}
use Rattle.refusals.specs.Order.{◌when◌, first, refused_or}
use Rattle.nas_core.specs.Types.{wrong_type}
use Rattle.nas_core.specs.Refusals.{send_refusals}
use Rattle.nas_core.specs.declared.Direction.{Direction}
use Rattle.nas_eps.specs.declared.Context.{Context}
use Rattle.nas_core.specs.UseAnswer.{UseAnswer, Refused}
use Rattle.nas_eps.specs.Places.{uplink, place_of, next_at, fault_of}
use Rattle.nas_eps.specs.Leaves.{Leaves, leaves, use_next}
use Rattle.nas_eps.specs.Octets.{message, service_request}

-- seal: 3, 4, 5, 6
abbrev pub seal_refusals : Context → ℕ → ℕ → List ℕ → ℕ → List ℕ
seal_refusals x t d inner room = fault_of x ∷ 3 when wrong_type t ∷ send_refusals 6 (length inner) room (next_at x d)

unfoldable pub seal_refusal : Context → ℕ → ℕ → List ℕ → ℕ → ℕ
seal_refusal x t d inner room = first (seal_refusals x t d inner room)

-- not refused: the message under the next COUNT of its direction
unfoldable pub sent : Context → ℕ → ℕ → List ℕ → List ℕ → Leaves UseAnswer
sent x t d inner out = use_next x d (λ c. message x.core t c d inner) out

unfoldable pub seal_of : Context → ℕ → Direction → List ℕ → List ℕ → Leaves UseAnswer
seal_of x t d inner out =
    refused_or (seal_refusal x t (place_of d) inner (length out))
    (λ n. leaves (Refused n) x out)
    (sent x t (place_of d) inner out)

-- seal SERVICE REQUEST: 16, 5, 6; always uplink
abbrev pub request_refusals : Context → ℕ → ℕ → List ℕ
request_refusals x i room = fault_of x ∷ 16 when (ltb 7 i) ∷ 5 when (ltb room 4) ∷ 6 when (leb exhausted (next_at x uplink)) ∷ []

unfoldable pub request_refusal : Context → ℕ → ℕ → ℕ
request_refusal x i room = first (request_refusals x i room)

unfoldable pub service_request_of : Context → ℕ → List ℕ → Leaves UseAnswer
service_request_of x i out =
    refused_or (request_refusal x i (length out))
    (λ n. leaves (Refused n) x out)
    (use_next x uplink (λ c. service_request x.core i c) out)
