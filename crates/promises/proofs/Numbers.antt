-- Which numbers a call's refusals can have.
use Prim.Native.Nat.{ℕ}
use mathlib.Core.Path.{◌≡◌, refl, subst}
use mathlib.Core.Bool.{true, false, not, ◌||◌}
use mathlib.Core.Logic.{inl, inr}
use mathlib.Core.List.{List, [], ◌∷◌}
use lib.ListN.{length, get_or}
use lib.Dec.{eqb, ltb}
use borrow.Author.Tests.{ne_eqb}
use Rattle.count.specs.Run.{In}
use Rattle.refusals.specs.Order.{◌when◌}
use Rattle.nas_core.specs.Refusals.{limit, unbuilt, core_fault}
use Rattle.nas_core.specs.Verify.{fits}
use Rattle.look.specs.Look.{not_known, not_together, wrong_way, look_refusals, look_of}
use Rattle.initial.specs.Messages.{is_initial}
use Rattle.initial.specs.Outer.{is_hideable, outer_length}
use Rattle.initial.specs.Inside.{Hidden}
use Rattle.envelope.specs.Initial.{is_refused}
use Rattle.nas_5gs.specs.declared.Context.{Context}
use Rattle.nas_core.specs.declared.Direction.TheVariants.{Uplink}
use Rattle.nas_5gs.specs.Places.{direction_no, place_of, four, next_at, any_over, fault_of}
use Rattle.nas_5gs.specs.Envelope.{wrong_type}
use Rattle.nas_5gs.specs.Seal.{seal_refusals, seal_refusal, opaque_refusals, opaque_refusal}
use Rattle.nas_5gs.specs.Initial.{initial_refusals, initial_refusal}
use Rattle.nas_5gs.specs.Open.{type_of, open_refusals, open_refusal, room_for, inside_number}
use Rattle.nas_5gs.specs.Eps.{eps_place, not_eps, seal_eps_refusals, seal_eps_refusal, open_eps_refusals, open_eps_refusal}
use Rattle.nas_5gs.specs.Containers.{container_bearer, container_direction, none_left, s1_count, s1_to_n1_refusals, s1_to_n1_refusal, other_algorithms, verify_s1_to_n1_refusals, verify_s1_to_n1_refusal}
pub use Rattle.promise.proofs.Numbers.{there, not_there, or_right, Among}
use Rattle.promise.proofs.Numbers.{is_in, none, ◌&◌, first-among, may, core-among, send-each, hand-each, subset, widen}
use Rattle.promises.specs.Calls.{Call, set_window, reselect, seal5gs, seal_opaque, seal_initial, open5gs, seal_eps, open_eps, make_n1_to_s1, verify_n1_to_s1, make_s1_to_n1, verify_s1_to_n1}
use Rattle.promises.specs.Demand1.{numbers_of}
use Rattle.promises.proofs.Shapes.{refusal_of}

fault-among : (s : List ℕ) (x : Context) → is_in 13 s ≡ true → is_in 14 s ≡ true → is_in 16 s ≡ true → Among s (fault_of x)
unfolding fault_of
fault-among s x a b c =
    first-among s (core_fault x.core ∷ 16 when any_over (four (next_at x)) ∷ []) (core-among s x.core a b & may s 16 (any_over (four (next_at x))) c & none)

-- the numbers of the refusals before the code is looked at
abbrev pub early : Call → List ℕ
early (set_window n) = 13 ∷ 14 ∷ 16 ∷ []
early (reselect i c ik ck) = 13 ∷ 14 ∷ 16 ∷ []
early (seal5gs t d k inner out) = 13 ∷ 14 ∷ 16 ∷ 9 ∷ 3 ∷ 10 ∷ 11 ∷ 4 ∷ 5 ∷ 6 ∷ []
early (seal_opaque t d k inner out) = 13 ∷ 14 ∷ 16 ∷ 3 ∷ 4 ∷ 5 ∷ 6 ∷ []
early (seal_initial k w out) = 13 ∷ 14 ∷ 16 ∷ 9 ∷ 18 ∷ 4 ∷ 5 ∷ 6 ∷ []
early (open5gs d k m out out2) = 13 ∷ 14 ∷ 16 ∷ 1 ∷ 2 ∷ 3 ∷ 4 ∷ 5 ∷ []
early (seal_eps inner out) = 13 ∷ 14 ∷ 16 ∷ 12 ∷ 4 ∷ 5 ∷ 6 ∷ []
early (open_eps m out) = 13 ∷ 14 ∷ 16 ∷ 1 ∷ 2 ∷ 4 ∷ 5 ∷ []
early make_n1_to_s1 = 13 ∷ 14 ∷ 16 ∷ 6 ∷ []
early (verify_n1_to_s1 s) = 13 ∷ 14 ∷ 16 ∷ []
early (make_s1_to_n1 ncc ngksi out) = 13 ∷ 14 ∷ 16 ∷ 5 ∷ 6 ∷ []
early (verify_s1_to_n1 v) = 13 ∷ 14 ∷ 16 ∷ 1 ∷ 4 ∷ 15 ∷ 6 ∷ 7 ∷ []

pub refusal-early : (k : Call) (x : Context) → Among (early k) (refusal_of k x)
unfolding seal_refusal opaque_refusal initial_refusal open_refusal seal_eps_refusal open_eps_refusal s1_to_n1_refusal verify_s1_to_n1_refusal
refusal-early (set_window n) x =
    let s = early (set_window n) in
    first-among s (fault_of x ∷ 14 when (ltb 64 n) ∷ []) (fault-among s x refl refl refl & may s 14 (ltb 64 n) refl & none)
refusal-early (reselect i c ik ck) x =
    let s = early (reselect i c ik ck) in
    first-among s (fault_of x ∷ 13 when unbuilt i c ∷ []) (fault-among s x refl refl refl & may s 13 (unbuilt i c) refl & none)
refusal-early (seal5gs t d k inner out) x =
    let s = early (seal5gs t d k inner out) in
    let e = direction_no d in
    first-among s (seal_refusals x t (place_of d k) e inner (length out)) (
    fault-among s x refl refl refl & may s 9 (not_known inner) refl & may s 3 (wrong_type t) refl & may s 10 (not_together t inner) refl &
    may s 11 (wrong_way e inner) refl & send-each s 7 (length inner) (length out) (next_at x (place_of d k)) refl refl refl)
refusal-early (seal_opaque t d k inner out) x =
    let s = early (seal_opaque t d k inner out) in
    first-among s (opaque_refusals x t (place_of d k) inner (length out)) (
    fault-among s x refl refl refl & may s 3 (wrong_type t) refl & send-each s 7 (length inner) (length out) (next_at x (place_of d k)) refl refl refl)
refusal-early (seal_initial k w out) x =
    let s = early (seal_initial k w out) in
    first-among s (initial_refusals x (place_of Uplink k) w (length out)) (
    fault-among s x refl refl refl & may s 9 (not (is_initial w)) refl & may s 18 (not (is_hideable w)) refl &
    send-each s 7 (outer_length w) (length out) (next_at x (place_of Uplink k)) refl refl refl)
refusal-early (open5gs d k m out out2) x =
    let s = early (open5gs d k m out out2) in
    let room = room_for (type_of m) (direction_no d) (length out) (length out2) in
    first-among s (open_refusals x m room) (
    fault-among s x refl refl refl & may s 1 (ltb (length m) 7) refl & may s 2 (not (eqb (get_or m 0 0) 0x7E)) refl & may s 3 (wrong_type (type_of m)) refl &
    may s 1 (eqb (length m) 7) refl & hand-each s 7 (length m) room refl refl)
refusal-early (seal_eps inner out) x =
    let s = early (seal_eps inner out) in
    first-among s (seal_eps_refusals x inner (length out)) (
    fault-among s x refl refl refl & may s 12 (not_eps inner) refl & send-each s 6 (length inner) (length out) (next_at x eps_place) refl refl refl)
refusal-early (open_eps m out) x =
    let s = early (open_eps m out) in
    first-among s (open_eps_refusals x m (length out)) (
    fault-among s x refl refl refl & may s 1 (ltb (length m) 6) refl & may s 2 (not (eqb (get_or m 0 0) 0x17)) refl &
    hand-each s 6 (length m) (length out) refl refl)
refusal-early make_n1_to_s1 x =
    let s = early make_n1_to_s1 in
    first-among s (fault_of x ∷ 6 when none_left x ∷ []) (fault-among s x refl refl refl & may s 6 (none_left x) refl & none)
refusal-early (verify_n1_to_s1 n) x = fault-among (early (verify_n1_to_s1 n)) x refl refl refl
refusal-early (make_s1_to_n1 ncc ngksi out) x =
    let s = early (make_s1_to_n1 ncc ngksi out) in
    first-among s (s1_to_n1_refusals x ncc ngksi (length out)) (
    fault-among s x refl refl refl & may s 16 (ltb 7 ncc || ltb 15 ngksi) refl & may s 5 (ltb (length out) 8) refl & may s 6 (none_left x) refl & none)
refusal-early (verify_s1_to_n1 v) x =
    let s = early (verify_s1_to_n1 v) in
    first-among s (verify_s1_to_n1_refusals x v) (
    fault-among s x refl refl refl & may s 1 (ltb (length v) 8) refl & may s 4 (ltb limit (length v)) refl & may s 15 (other_algorithms x.core v) refl &
    may s 6 (none_left x) refl & may s 7 (not (fits x.core s1_count container_bearer container_direction 0 v)) refl & none)

-- they are numbers of the call, and none is 8
early-in : (k : Call) → (subset (early k) (numbers_of k) ≡ true) × (is_in 8 (early k) ≡ false)
early-in (set_window n) = (refl, refl)
early-in (reselect i c ik ck) = (refl, refl)
early-in (seal5gs t d k inner out) = (refl, refl)
early-in (seal_opaque t d k inner out) = (refl, refl)
early-in (seal_initial k w out) = (refl, refl)
early-in (open5gs d k m out out2) = (refl, refl)
early-in (seal_eps inner out) = (refl, refl)
early-in (open_eps m out) = (refl, refl)
early-in make_n1_to_s1 = (refl, refl)
early-in (verify_n1_to_s1 s) = (refl, refl)
early-in (make_s1_to_n1 ncc ngksi out) = (refl, refl)
early-in (verify_s1_to_n1 v) = (refl, refl)

module _ (k : Call) (x : Context) (refused : refusal_of k x ≡ 0 → ⊥) where
  pub refusal-listed : In (refusal_of k x) (numbers_of k)
  refusal-listed = go (refusal-early k x)
    where
      go : Among (early k) (refusal_of k x) → In (refusal_of k x) (numbers_of k)
      go (inl e) = absurd (refused e)
      go (inr h) = widen (early k) (numbers_of k) (early-in k).0 (refusal_of k x) h

  pub refusal-not-8 : refusal_of k x ≡ 8 → ⊥
  refusal-not-8 e = go (refusal-early k x)
    where
      go : Among (early k) (refusal_of k x) → ⊥
      go (inl z) = refused z
      go (inr h) = not_there 8 (early k) (early-in k).1 (subst (λ (n : ℕ). In n (early k)) e h)

-- a context's own refusal comes first
pub fault-first : (k : Call) (x : Context) → (fault_of x ≡ 0 → ⊥) → refusal_of k x ≡ fault_of x
unfolding seal_refusal opaque_refusal initial_refusal open_refusal seal_eps_refusal open_eps_refusal s1_to_n1_refusal verify_s1_to_n1_refusal
fault-first (set_window n) x f = rw (ne_eqb (fault_of x) 0 f)
fault-first (reselect i c ik ck) x f = rw (ne_eqb (fault_of x) 0 f)
fault-first (seal5gs t d k inner out) x f = rw (ne_eqb (fault_of x) 0 f)
fault-first (seal_opaque t d k inner out) x f = rw (ne_eqb (fault_of x) 0 f)
fault-first (seal_initial k w out) x f = rw (ne_eqb (fault_of x) 0 f)
fault-first (open5gs d k m out out2) x f = rw (ne_eqb (fault_of x) 0 f)
fault-first (seal_eps inner out) x f = rw (ne_eqb (fault_of x) 0 f)
fault-first (open_eps m out) x f = rw (ne_eqb (fault_of x) 0 f)
fault-first make_n1_to_s1 x f = rw (ne_eqb (fault_of x) 0 f)
fault-first (verify_n1_to_s1 s) x f = refl
fault-first (make_s1_to_n1 ncc ngksi out) x f = rw (ne_eqb (fault_of x) 0 f)
fault-first (verify_s1_to_n1 v) x f = rw (ne_eqb (fault_of x) 0 f)

-- what 8 carries
pub look-listed : (t d : ℕ) (m : List ℕ) → Among (9 ∷ 10 ∷ 11 ∷ []) (look_of t d m)
unfolding look_of
look-listed t d m =
    let s : List ℕ = 9 ∷ 10 ∷ 11 ∷ [] in
    first-among s (look_refusals t d m) (may s 9 (not_known m) refl & may s 10 (not_together t m) refl & may s 11 (wrong_way d m) refl & none)

pub carried-listed : (looked : ℕ) (h : Hidden) → Among (9 ∷ 10 ∷ 11 ∷ []) looked → Among (9 ∷ 10 ∷ 11 ∷ 18 ∷ []) (inside_number looked h)
unfolding inside_number
carried-listed looked h a =
    let s : List ℕ = 9 ∷ 10 ∷ 11 ∷ 18 ∷ [] in
    first-among s (looked ∷ 18 when is_refused h ∷ []) (wider a & may s 18 (is_refused h) refl & none)
  where
    wider : Among (9 ∷ 10 ∷ 11 ∷ []) looked → Among (9 ∷ 10 ∷ 11 ∷ 18 ∷ []) looked
    wider (inl e) = inl e
    wider (inr i) = inr (widen (9 ∷ 10 ∷ 11 ∷ []) (9 ∷ 10 ∷ 11 ∷ 18 ∷ []) refl looked i)
