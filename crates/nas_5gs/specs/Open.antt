-- Opening a 5GS message (document 01, "Refusal numbers", Order; document 02, item 9: the second output).
use Rattle.std.specs.Prelude.{ℕ, ◌%◌, min, not, cond, ◌&&◌, List, [], ◌∷◌, length, get_or, drop, ltb, eqb}
use Rattle.count.specs.Rule.{distance_of}
use Rattle.refusals.specs.Order.{◌when◌, first, refused_or}
use Rattle.nas_core.specs.declared.Core.{Core}
use Rattle.nas_core.specs.Refusals.{hand_refusals}
use Rattle.nas_core.specs.Keyed.{payload}
use Rattle.nas_core.specs.Verify.{verify_of}
use Rattle.look.specs.Look.{look_of}
use Rattle.initial.specs.Inside.{Hidden}
use Rattle.envelope.specs.Initial.{beside_of, beside, is_refused}
use Rattle.nas_core.specs.declared.Direction.{Direction}
use Rattle.nas_5gs.specs.declared.Connection.{Connection}
use Rattle.nas_5gs.specs.declared.Context.{Context}
use Rattle.nas_5gs.specs.OpenAnswer.{OpenAnswer, Refused, Accepted, Content}
use Rattle.nas_5gs.specs.Places.{direction_no, bearer_no, place_of, record_at, fault_of}
use Rattle.nas_5gs.specs.Leaves.{LeavesTwo, leaves_two, over, received}
use Rattle.nas_5gs.specs.Envelope.{wrong_type, ciphers}

-- the header type stands in the low half of the second octet
abbrev pub type_of : List ℕ → ℕ
type_of m = get_or m 1 0 % 16

-- under 7, 2, 3, exactly 7, 4, 5
abbrev pub open_refusals : Context → List ℕ → ℕ → List ℕ
open_refusals x m room =
    fault_of x ∷ 1 when (ltb (length m) 7) ∷ 2 when not (eqb (get_or m 0 0) 0x7E) ∷ 3 when wrong_type (type_of m) ∷ 1 when (eqb (length m) 7) ∷ hand_refusals 7 (length m) room

unfoldable pub open_refusal : Context → List ℕ → ℕ → ℕ
open_refusal x m room = first (open_refusals x m room)

-- header type 1 and uplink: a second output is needed, as long as the first
unfoldable pub room_for : ℕ → ℕ → ℕ → ℕ → ℕ
room_for t d room second = cond (eqb t 1 && eqb d 0) (min room second) room

-- inside 8: 9, 10, 11, 18
unfoldable pub inside_number : ℕ → Hidden → ℕ
inside_number looked h = first (looked ∷ 18 when is_refused h ∷ [])

-- accepted, or 8 carrying a number
abbrev pub open_answer : ℕ → ℕ → ℕ → ℕ → ℕ → ℕ → OpenAnswer
open_answer c far wrote t n second = cond (eqb n 0) (Accepted c far wrote t second) (Content c far wrote t n)

-- the plaintext handed over, and beside it what is inside it, with the context in which COUNT c is used, which lies so far away
unfoldable pub handed : ℕ → ℕ → List ℕ → Hidden → List ℕ → List ℕ → ℕ → ℕ → Context → LeavesTwo OpenAnswer
handed t d plain h out second c far next =
    leaves_two (open_answer c far (length plain) t (inside_number (look_of t d plain) h) (length (beside h))) next (over plain out) (over (beside h) second)

-- the payload of m read under COUNT c
unfoldable pub plain_of : Core → ℕ → ℕ → ℕ → List ℕ → List ℕ
plain_of x c b d m = payload x (ciphers (type_of m)) c b d (drop 7 m)

-- not refused so far: 6 or 7, or the payload read under the COUNT that the code fits
unfoldable pub opened : Context → ℕ → ℕ → ℕ → List ℕ → List ℕ → List ℕ → LeavesTwo OpenAnswer
opened x p b d m out second =
    received x p
    (λ n. leaves_two (Refused n) x out second)
    (λ c next. handed (type_of m) d (plain_of x.core c b d m) (beside_of x.core (type_of m) c b d (plain_of x.core c b d m)) out second c (distance_of (record_at x p) c) next)
    (verify_of x.core (record_at x p) b d 2 m)

unfoldable pub open_of : Context → Direction → Connection → List ℕ → List ℕ → List ℕ → LeavesTwo OpenAnswer
open_of x d k m out second =
    refused_or (open_refusal x m (room_for (type_of m) (direction_no d) (length out) (length second)))
    (λ n. leaves_two (Refused n) x out second)
    (opened x (place_of d k) (bearer_no k) (direction_no d) m out second)
