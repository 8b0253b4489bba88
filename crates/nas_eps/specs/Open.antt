-- Opening an EPS message (request 6, "Open").
use Rattle.std.specs.Prelude.{ℕ, ◌%◌, ◌≡◌, Bool, cond, not, ◌&&◌, List, [], ◌∷◌, length, get_or, drop, ltb, eqb}
use Rattle.count.specs.Rule.{distance_of}
use Rattle.refusals.specs.Order.{◌when◌, first, refused_or}
use Rattle.nas_core.specs.Types.{wrong_type, ciphers}
use Rattle.nas_core.specs.Refusals.{hand_refusals}
use Rattle.nas_core.specs.Keyed.{payload}
use Rattle.nas_core.specs.Verify.{verify_of}
use Rattle.nas_core.specs.declared.Direction.{Direction}
use Rattle.nas_eps.specs.declared.Context.{Context}
use Rattle.nas_eps.specs.OpenAnswer.{OpenAnswer, Refused, Accepted, ServiceRequest}
use Rattle.nas_eps.specs.Places.{downlink, place_of, record_at, fault_of}
use Rattle.nas_eps.specs.Leaves.{Leaves, leaves, over, received}
use Rattle.nas_eps.specs.Octets.{bearer, type_of, is_request, identifier_of, request_as}

-- "C7 not of exactly four octets, 1; others under 7 octets, 1"
abbrev pub wrong_length : List ℕ → Bool
wrong_length m = cond (is_request m) (not (eqb (length m) 4)) (ltb (length m) 7)

-- what the octets are: 1 for none, 2 for the low half of the first, 3 for its high half, 1
abbrev pub form_refusals : List ℕ → List ℕ
form_refusals m =
    1 when (eqb (length m) 0) ∷ 2 when not (eqb (get_or m 0 0 % 16) 7) ∷ 3 when (wrong_type (type_of m) && not (is_request m)) ∷ 1 when wrong_length m ∷ []

unfoldable pub form_refusal : List ℕ → ℕ
form_refusal m = first (form_refusals m)

-- a SERVICE REQUEST: 11; of a type 1 to 4: 4, 5
abbrev pub open_refusals : Context → ℕ → List ℕ → ℕ → List ℕ
open_refusals x d m room =
    fault_of x ∷ form_refusal m ∷ cond (is_request m) (11 when (eqb d downlink) ∷ []) (hand_refusals 6 (length m) room)

unfoldable pub open_refusal : Context → ℕ → List ℕ → ℕ → ℕ
open_refusal x d m room = first (open_refusals x d m room)

-- the plaintext handed over, with the context in which COUNT c is used, which lies so far away
unfoldable pub handed : ℕ → List ℕ → List ℕ → ℕ → ℕ → Context → Leaves OpenAnswer
handed t plain out c far next = leaves (Accepted c far (length plain) t) next (over plain out)

-- of a type 1 to 4: 6 or 7, or the payload read under the COUNT that the code fits
unfoldable pub opened : Context → ℕ → List ℕ → List ℕ → Leaves OpenAnswer
opened x d m out =
    received x d
    (λ n. leaves (Refused n) x out)
    (λ c next. handed (type_of m) (payload x.core (ciphers (type_of m)) c bearer d (drop 6 m)) out c (distance_of (record_at x d) c) next)
    (verify_of x.core (record_at x d) bearer d 1 m)

-- of a SERVICE REQUEST, which 11 has left uplink alone: 6 or 7, or its COUNT used forward; "the output keeps every octet"
unfoldable pub requested : Context → ℕ → List ℕ → List ℕ → Leaves OpenAnswer
requested x d m out =
    received x d
    (λ n. leaves (Refused n) x out)
    (λ c next. leaves (ServiceRequest c (distance_of (record_at x d) c) (identifier_of m)) next out)
    (request_as x.core (record_at x d) m)

-- an answer and a context, and whatever output there is as it was
abbrev pub Requested : Context → ℕ → List ℕ → OpenAnswer → Context → Type 0
Requested x d m a next = (out : List ℕ) → leaves a next out ≡ requested x d m out

unfoldable pub open_of : Context → Direction → List ℕ → List ℕ → Leaves OpenAnswer
open_of x d m out =
    refused_or (open_refusal x (place_of d) m (length out))
    (λ n. leaves (Refused n) x out)
    (cond (is_request m) (requested x (place_of d) m out) (opened x (place_of d) m out))
