-- The EPS message of a UE that goes from 5GS to EPS (document 01, "The octets"; TS 33.501 8.5.2 and 8.5.3):
-- uplink 3GPP record, bearer 1, no ciphering.
use Rattle.std.specs.Prelude.{ℕ, Bool, not, cond, List, ◌∷◌, length, get_or, drop, ltb, eqb}
use Rattle.count.specs.Rule.{distance_of}
use Rattle.refusals.specs.Order.{◌when◌, first, refused_or}
use Rattle.nas_core.specs.Refusals.{send_refusals, hand_refusals}
use Rattle.nas_core.specs.Verify.{verify_of}
unfoldable pub use Rattle.envelope.specs.Eps.{not_eps, eps_message}
pub use Rattle.envelope.specs.Eps.{eps_bearer, eps_direction}
use Rattle.nas_core.specs.declared.Direction.TheVariants.{Uplink}
use Rattle.nas_5gs.specs.declared.Connection.TheVariants.{ThreeGpp}
use Rattle.nas_5gs.specs.declared.Context.{Context}
use Rattle.nas_core.specs.UseAnswer.{UseAnswer}
use Rattle.nas_core.specs.UseAnswer as use'
use Rattle.nas_5gs.specs.EpsOpenAnswer.{EpsOpenAnswer, Refused, Accepted, Content}
use Rattle.nas_5gs.specs.Places.{place_of, record_at, next_at, fault_of}
use Rattle.nas_5gs.specs.Leaves.{Leaves, leaves, over, use_next, received}

-- the record of EPS messages
abbrev pub eps_place : ℕ
eps_place = place_of Uplink ThreeGpp

-- EPS seal: 12, 4, 5, 6
abbrev pub seal_eps_refusals : Context → List ℕ → ℕ → List ℕ
seal_eps_refusals x inner room =
    fault_of x ∷ 12 when not_eps inner ∷ send_refusals 6 (length inner) room (next_at x eps_place)

unfoldable pub seal_eps_refusal : Context → List ℕ → ℕ → ℕ
seal_eps_refusal x inner room = first (seal_eps_refusals x inner room)

unfoldable pub seal_eps_of : Context → List ℕ → List ℕ → Leaves UseAnswer
seal_eps_of x inner out =
    refused_or (seal_eps_refusal x inner (length out))
    (λ n. leaves (use'.Refused n) x out)
    (use_next x eps_place (λ c. eps_message x.core c inner) out)

-- EPS open: 1, 2, 4, 5
abbrev pub open_eps_refusals : Context → List ℕ → ℕ → List ℕ
open_eps_refusals x m room =
    fault_of x ∷ 1 when (ltb (length m) 6) ∷ 2 when not (eqb (get_or m 0 0) 0x17) ∷ hand_refusals 6 (length m) room

unfoldable pub open_eps_refusal : Context → List ℕ → ℕ → ℕ
open_eps_refusal x m room = first (open_eps_refusals x m room)

-- accepted, or 8 carrying 12
abbrev pub eps_answer : ℕ → ℕ → ℕ → Bool → EpsOpenAnswer
eps_answer c far wrote refused = cond refused (Content c far wrote 12) (Accepted c far wrote)

unfoldable pub eps_handed : List ℕ → List ℕ → ℕ → ℕ → Context → Leaves EpsOpenAnswer
eps_handed plain out c far next = leaves (eps_answer c far (length plain) (not_eps plain)) next (over plain out)

-- not refused so far: 6 or 7, or what follows the header
unfoldable pub eps_opened : Context → List ℕ → List ℕ → Leaves EpsOpenAnswer
eps_opened x m out =
    received x eps_place
    (λ n. leaves (Refused n) x out)
    (λ c next. eps_handed (drop 6 m) out c (distance_of (record_at x eps_place) c) next)
    (verify_of x.core (record_at x eps_place) eps_bearer eps_direction 1 m)

unfoldable pub open_eps_of : Context → List ℕ → List ℕ → Leaves EpsOpenAnswer
open_eps_of x m out =
    refused_or (open_eps_refusal x m (length out))
    (λ n. leaves (Refused n) x out)
    (eps_opened x m out)
