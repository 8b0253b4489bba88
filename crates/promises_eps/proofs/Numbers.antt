-- Which numbers a call's refusals can have.
use Prim.Native.Nat.{ℕ, ◌%◌}
use mathlib.Core.Path.{◌≡◌, refl}
use mathlib.Core.Bool.{Bool, true, false, cond, not, ◌&&◌}
use mathlib.Core.Logic.{inl, inr}
use mathlib.Core.List.{List, [], ◌∷◌}
use lib.ListN.{length, get_or}
use lib.Dec.{eqb, ltb, leb}
use borrow.Author.Tests.{ne_eqb}
use Rattle.count.specs.Rule.{exhausted}
use Rattle.count.specs.Run.{In}
use Rattle.refusals.specs.Order.{◌when◌}
use Rattle.nas_core.specs.Types.{wrong_type}
use Rattle.nas_core.specs.Refusals.{unbuilt, any_over, core_fault, hand_refusals}
use Rattle.nas_eps.specs.declared.Context.{Context}
use Rattle.nas_eps.specs.Places.{uplink, downlink, place_of, two, next_at, fault_of}
use Rattle.nas_eps.specs.Octets.{type_of, is_request}
use Rattle.nas_eps.specs.Seal.{seal_refusals, seal_refusal, request_refusals, request_refusal}
use Rattle.nas_eps.specs.Open.{wrong_length, form_refusals, form_refusal, open_refusals, open_refusal}
use Rattle.promise.proofs.Numbers.{is_in, Among, Each, none, ◌&◌, first-among, may, core-among, send-each, hand-each, subset, widen}
use Rattle.promises_eps.specs.Calls.{Call, set_window, reselect, seal_message, seal_request, open_message}
use Rattle.promises_eps.specs.Demand1.{numbers_of}
use Rattle.promises_eps.proofs.Shapes.{refusal_of}

fault-among : (s : List ℕ) (x : Context) → is_in 13 s ≡ true → is_in 14 s ≡ true → is_in 16 s ≡ true → Among s (fault_of x)
unfolding fault_of
fault-among s x a b c =
    first-among s (core_fault x.core ∷ 16 when any_over (two (next_at x)) ∷ []) (core-among s x.core a b & may s 16 (any_over (two (next_at x))) c & none)

-- the numbers of the refusals before the code is looked at
abbrev early : Call → List ℕ
early (set_window n) = 13 ∷ 14 ∷ 16 ∷ []
early (reselect i c ik ck) = 13 ∷ 14 ∷ 16 ∷ []
early (seal_message t d inner out) = 13 ∷ 14 ∷ 16 ∷ 3 ∷ 4 ∷ 5 ∷ 6 ∷ []
early (seal_request i out) = 13 ∷ 14 ∷ 16 ∷ 5 ∷ 6 ∷ []
early (open_message d m out) = 13 ∷ 14 ∷ 16 ∷ 1 ∷ 2 ∷ 3 ∷ 11 ∷ 4 ∷ 5 ∷ []

form-among : (s : List ℕ) (m : List ℕ) → is_in 1 s ≡ true → is_in 2 s ≡ true → is_in 3 s ≡ true → Among s (form_refusal m)
unfolding form_refusal
form-among s m a b c =
    first-among s (form_refusals m) (
    may s 1 (eqb (length m) 0) a & may s 2 (not (eqb (get_or m 0 0 % 16) 7)) b & may s 3 (wrong_type (type_of m) && not (is_request m)) c &
    may s 1 (wrong_length m) a & none)

by_kind : (s : List ℕ) (d : ℕ) (m : List ℕ) (room : ℕ) (t : Bool) → is_in 11 s ≡ true → is_in 4 s ≡ true → is_in 5 s ≡ true
    → Each s (cond t (11 when (eqb d downlink) ∷ []) (hand_refusals 6 (length m) room))
by_kind s d m room true a b c = (may s 11 (eqb d downlink) a & none)
by_kind s d m room false a b c = hand-each s 6 (length m) room b c

refusal-early : (k : Call) (x : Context) → Among (early k) (refusal_of k x)
unfolding seal_refusal request_refusal open_refusal
refusal-early (set_window n) x =
    let s = early (set_window n) in
    first-among s (fault_of x ∷ 14 when (ltb 64 n) ∷ []) (fault-among s x refl refl refl & may s 14 (ltb 64 n) refl & none)
refusal-early (reselect i c ik ck) x =
    let s = early (reselect i c ik ck) in
    first-among s (fault_of x ∷ 13 when unbuilt i c ∷ []) (fault-among s x refl refl refl & may s 13 (unbuilt i c) refl & none)
refusal-early (seal_message t d inner out) x =
    let s = early (seal_message t d inner out) in
    first-among s (seal_refusals x t (place_of d) inner (length out)) (
    fault-among s x refl refl refl & may s 3 (wrong_type t) refl & send-each s 6 (length inner) (length out) (next_at x (place_of d)) refl refl refl)
refusal-early (seal_request i out) x =
    let s = early (seal_request i out) in
    first-among s (request_refusals x i (length out)) (
    fault-among s x refl refl refl & may s 16 (ltb 7 i) refl & may s 5 (ltb (length out) 4) refl & may s 6 (leb exhausted (next_at x uplink)) refl & none)
refusal-early (open_message d m out) x =
    let s = early (open_message d m out) in
    first-among s (open_refusals x (place_of d) m (length out)) (
    fault-among s x refl refl refl & form-among s m refl refl refl & by_kind s (place_of d) m (length out) (is_request m) refl refl refl)

-- they are numbers of the call
early-in : (k : Call) → subset (early k) (numbers_of k) ≡ true
early-in (set_window n) = refl
early-in (reselect i c ik ck) = refl
early-in (seal_message t d inner out) = refl
early-in (seal_request i out) = refl
early-in (open_message d m out) = refl

-- none of which is 8
pub never-8 : (k : Call) → is_in 8 (numbers_of k) ≡ false
never-8 (set_window n) = refl
never-8 (reselect i c ik ck) = refl
never-8 (seal_message t d inner out) = refl
never-8 (seal_request i out) = refl
never-8 (open_message d m out) = refl

pub refusal-listed : (k : Call) (x : Context) → (refusal_of k x ≡ 0 → ⊥) → In (refusal_of k x) (numbers_of k)
refusal-listed k x refused = go (refusal-early k x)
  where
    go : Among (early k) (refusal_of k x) → In (refusal_of k x) (numbers_of k)
    go (inl e) = absurd (refused e)
    go (inr h) = widen (early k) (numbers_of k) (early-in k) (refusal_of k x) h

-- a context's own refusal comes first
pub fault-first : (k : Call) (x : Context) → (fault_of x ≡ 0 → ⊥) → refusal_of k x ≡ fault_of x
unfolding seal_refusal request_refusal open_refusal
fault-first (set_window n) x f = rw (ne_eqb (fault_of x) 0 f)
fault-first (reselect i c ik ck) x f = rw (ne_eqb (fault_of x) 0 f)
fault-first (seal_message t d inner out) x f = rw (ne_eqb (fault_of x) 0 f)
fault-first (seal_request i out) x f = rw (ne_eqb (fault_of x) 0 f)
fault-first (open_message d m out) x f = rw (ne_eqb (fault_of x) 0 f)
