-- The NAS transparent containers (document 01, "The octets"; TS 24.501 9.11.2.7, 9.11.2.9, 9.11.3.34): downlink 3GPP record.
use Rattle.std.specs.Prelude.{ℕ, ◌%◌, Bool, true, not, ◌||◌, List, [], ◌∷◌, length, leb, ltb}
use Rattle.count.specs.Rule.{exhausted, forward_only, distance_of}
use Rattle.refusals.specs.Order.{◌when◌, first, refused_or}
use Rattle.nas_core.specs.Refusals.{limit}
use Rattle.nas_core.specs.Keyed.{wraps}
use Rattle.nas_core.specs.Verify.{fits}
unfoldable pub use Rattle.envelope.specs.Containers.{s1_to_n1, other_algorithms}
pub use Rattle.envelope.specs.Containers.{container_bearer, container_direction, s1_value, s1_count}
use Rattle.nas_core.specs.declared.Direction.TheVariants.{Downlink}
use Rattle.nas_5gs.specs.declared.Connection.TheVariants.{ThreeGpp}
use Rattle.nas_5gs.specs.declared.Context.{Context}
use Rattle.nas_core.specs.UseAnswer.{UseAnswer, Refused}
use Rattle.nas_5gs.specs.OctetAnswer.{OctetAnswer}
use Rattle.nas_5gs.specs.OctetAnswer as octet
use Rattle.nas_5gs.specs.VerifyAnswer.{VerifyAnswer}
use Rattle.nas_5gs.specs.VerifyAnswer as verify
use Rattle.nas_5gs.specs.Places.{place_of, record_at, next_at, fault_of, used}
use Rattle.nas_5gs.specs.Leaves.{Leaves, leaves, use_next, received}

-- the record of containers
abbrev pub container_place : ℕ
container_place = place_of Downlink ThreeGpp

-- 6: no COUNT to send
abbrev pub none_left : Context → Bool
none_left x = leb exhausted (next_at x container_place)

-- N1-to-S1: the last octet of the next COUNT
abbrev pub last_octet : Context → ℕ → Leaves OctetAnswer
last_octet x c = leaves (octet.Made c (c % 256)) (used x container_place c) []

-- made: 6
unfoldable pub n1_to_s1_of : Context → Leaves OctetAnswer
n1_to_s1_of x =
    refused_or (first (fault_of x ∷ 6 when none_left x ∷ []))
    (λ n. leaves (octet.Refused n) x [])
    (last_octet x (next_at x container_place))

-- verified: 6; it has no code, so every forward candidate fits
unfoldable pub verify_n1_to_s1_of : Context → ℕ → Leaves VerifyAnswer
verify_n1_to_s1_of x s =
    refused_or (fault_of x)
    (λ n. leaves (verify.Refused n) x [])
    (received x container_place
    (λ n. leaves (verify.Refused n) x [])
    (λ c next. leaves (verify.Verified c (distance_of (record_at x container_place) c)) next [])
    (forward_only 8 (wraps x.core) (λ c. true) (record_at x container_place) s))

-- S1-to-N1 made: 16, 5, 6
abbrev pub s1_to_n1_refusals : Context → ℕ → ℕ → ℕ → List ℕ
s1_to_n1_refusals x ncc ngksi room =
    fault_of x ∷ 16 when (ltb 7 ncc || ltb 15 ngksi) ∷ 5 when (ltb room 8) ∷ 6 when none_left x ∷ []

unfoldable pub s1_to_n1_refusal : Context → ℕ → ℕ → ℕ → ℕ
s1_to_n1_refusal x ncc ngksi room = first (s1_to_n1_refusals x ncc ngksi room)

unfoldable pub s1_to_n1_of : Context → ℕ → ℕ → List ℕ → Leaves UseAnswer
s1_to_n1_of x ncc ngksi out =
    refused_or (s1_to_n1_refusal x ncc ngksi (length out))
    (λ n. leaves (Refused n) x out)
    (use_next x container_place (λ c. s1_to_n1 x.core ncc ngksi) out)

-- verified: 1, 4, 15, 6, 7; the code is over everything from the fifth octet
abbrev pub verify_s1_to_n1_refusals : Context → List ℕ → List ℕ
verify_s1_to_n1_refusals x v =
    fault_of x ∷ 1 when (ltb (length v) 8) ∷ 4 when (ltb limit (length v)) ∷ 15 when other_algorithms x.core v ∷ 6 when none_left x ∷ 7 when not (fits x.core s1_count container_bearer container_direction 0 v) ∷ []

unfoldable pub verify_s1_to_n1_refusal : Context → List ℕ → ℕ
verify_s1_to_n1_refusal x v = first (verify_s1_to_n1_refusals x v)

unfoldable pub verify_s1_to_n1_of : Context → List ℕ → Leaves UseAnswer
verify_s1_to_n1_of x v =
    refused_or (verify_s1_to_n1_refusal x v)
    (λ n. leaves (Refused n) x [])
    (use_next x container_place (λ c. []) [])
