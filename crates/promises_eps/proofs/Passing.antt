-- Every call is a refusal or what it does once its refusals let it pass.
use Prim.Native.Nat.{ℕ}
use mathlib.Core.Path.{◌≡◌, refl, sym, ap, ◌∙◌}
use mathlib.Core.Bool.{Bool, true, false}
use mathlib.Core.List.{List, []}
use lib.Dec.{eqb}
use native.Mathlib.Omega.{arith}
use borrow.Author.Tests.{eqb-true, eqb-false, eq-eqb, ne_eqb}
use Rattle.aes.specs.Keys.{key_of}
use Rattle.refusals.specs.Order.{refused_or}
use Rattle.nas_core.specs.Keyed.{core_with}
use Rattle.nas_eps.specs.declared.Context.{Context}
use Rattle.nas_core.specs.ChangeAnswer as change
use Rattle.nas_core.specs.UseAnswer as use'
use Rattle.nas_eps.specs.OpenAnswer as open'
use Rattle.nas_eps.specs.Places.{uplink, place_of}
use Rattle.nas_eps.specs.Leaves.{leaves, use_next, success, change_values, use_values, open_values}
use Rattle.nas_eps.specs.Changes.{kept_for, reselect_of, resized, window_of}
use Rattle.nas_eps.specs.Octets.{message, service_request}
use Rattle.nas_eps.specs.Seal.{sent, seal_of, service_request_of}
use Rattle.nas_eps.specs.Open.{open_of}
pub use Rattle.promise.proofs.Told.{alone}
use Rattle.promise.proofs.Told.{split}
use Rattle.promises_eps.specs.Calls.{Call, set_window, reselect, seal_message, seal_request, open_message, Outcome, outcome, gives, lent}
use Rattle.promises_eps.proofs.Shapes.{refusal_of, taken, taken_is}

abbrev pub sends : Context → ℕ → (ℕ → List ℕ) → List ℕ → Outcome
sends x p made out = outcome use_values (use_next x p made out)

abbrev pub passes : Call → Context → Outcome
passes (set_window n) x = record { values = success; context = resized x n; output = [] }
passes (reselect i c ik ck) x =
    record { values = success; context = record { core = core_with i c (key_of ik) (key_of ck) x.core.size; records = (kept_for x i).records }; output = [] }
passes (seal_message t d inner out) x = sends x (place_of d) (λ c. message x.core t c (place_of d) inner) out
passes (seal_request i out) x = sends x uplink (λ c. service_request x.core i c) out
passes (open_message d m out) x = outcome open_values (taken x (place_of d) m out)

pub gives-is : (k : Call) (x : Context) → gives k x ≡ refused_or (refusal_of k x) (λ n. alone n x (lent k)) (passes k x)
unfolding window_of reselect_of seal_of sent service_request_of open_of
gives-is (set_window n) x = split change_values (refusal_of (set_window n) x) (λ j. leaves (change.Refused j) x []) (leaves change.Done (resized x n) [])
gives-is (reselect i c ik ck) x =
    split change_values (refusal_of (reselect i c ik ck) x) (λ j. leaves (change.Refused j) x [])
    (leaves change.Done (record { core = core_with i c (key_of ik) (key_of ck) x.core.size; records = (kept_for x i).records }) [])
gives-is (seal_message t d inner out) x =
    split use_values (refusal_of (seal_message t d inner out) x) (λ j. leaves (use'.Refused j) x out)
    (use_next x (place_of d) (λ c. message x.core t c (place_of d) inner) out)
gives-is (seal_request i out) x =
    split use_values (refusal_of (seal_request i out) x) (λ j. leaves (use'.Refused j) x out) (use_next x uplink (λ c. service_request x.core i c) out)
gives-is (open_message d m out) x =
    rw (taken_is x (place_of d) m out)
    (split open_values (refusal_of (open_message d m out) x) (λ j. leaves (open'.Refused j) x out) (taken x (place_of d) m out))

module _ (k : Call) (x : Context) where
  pub gives-passed : refusal_of k x ≡ 0 → gives k x ≡ passes k x
  gives-passed e = rw (gives-is k x, eq-eqb (refusal_of k x) 0 e)

  pub gives-refused : (refusal_of k x ≡ 0 → ⊥) → gives k x ≡ alone (refusal_of k x) x (lent k)
  gives-refused n = rw (gives-is k x, ne_eqb (refusal_of k x) 0 n)

  -- a refused call uses no COUNT
  pub uses-passed : (gives k x).values.uses ≡ true → refusal_of k x ≡ 0
  uses-passed u = go (eqb (refusal_of k x) 0) refl
    where
      go : (t : Bool) → eqb (refusal_of k x) 0 ≡ t → refusal_of k x ≡ 0
      go true e = eqb-true (refusal_of k x) 0 e
      go false e =
          let q = gives-refused (eqb-false (refusal_of k x) 0 e) in
          let h : false ≡ true = sym (ap (λ (o : Outcome). o.values.uses) q) ∙ u in
          let z : ◌≡◌ {A = ℕ} 0 1 = cc in absurd (omega arith)

  -- and one that succeeds is not refused
  pub succeeds-passed : (gives k x).values.number ≡ 0 → refusal_of k x ≡ 0
  succeeds-passed s = go (eqb (refusal_of k x) 0) refl
    where
      go : (t : Bool) → eqb (refusal_of k x) 0 ≡ t → refusal_of k x ≡ 0
      go true e = eqb-true (refusal_of k x) 0 e
      go false e = sym (ap (λ (o : Outcome). o.values.number) (gives-refused (eqb-false (refusal_of k x) 0 e))) ∙ s
