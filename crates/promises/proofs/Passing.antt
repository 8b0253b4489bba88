-- Every call is a refusal or what it does once its refusals let it pass.
use Prim.Native.Nat.{ℕ}
use mathlib.Core.Path.{◌≡◌, refl, sym, ap, ◌∙◌}
use mathlib.Core.Bool.{Bool, true, false}
use mathlib.Core.List.{List, []}
use lib.Dec.{eqb}
use native.Mathlib.Omega.{arith}
use borrow.Author.Tests.{eqb-true, eqb-false, eq-eqb, ne_eqb}
use Rattle.aes.specs.Keys.{key_of}
use Rattle.refusals.specs.Order.{refused_or}
use Rattle.envelope.specs.Initial.{initial_envelope}
use Rattle.nas_5gs.specs.declared.Context.{Context}
use Rattle.nas_core.specs.declared.Direction.TheVariants.{Uplink}
use Rattle.nas_core.specs.ChangeAnswer as change
use Rattle.nas_core.specs.UseAnswer as use'
use Rattle.nas_5gs.specs.OpenAnswer as open'
use Rattle.nas_5gs.specs.EpsOpenAnswer as eps
use Rattle.nas_5gs.specs.OctetAnswer as octet
use Rattle.nas_5gs.specs.VerifyAnswer as verify
use Rattle.nas_5gs.specs.Places.{direction_no, bearer_no, place_of, next_at}
use Rattle.nas_5gs.specs.Leaves.{leaves, use_next, received, success, change_values, use_values, open_values, eps_open_values, octet_values, verify_values}
use Rattle.nas_5gs.specs.Changes.{core_with, kept_for, reselect_of, resized, window_of}
use Rattle.nas_5gs.specs.Envelope.{envelope}
use Rattle.nas_5gs.specs.Seal.{sent, seal_of, seal_opaque_of}
use Rattle.nas_5gs.specs.Initial.{sent_initial, initial_of}
use Rattle.nas_5gs.specs.Eps.{eps_place, eps_message, seal_eps_of, eps_opened, open_eps_of}
use Rattle.nas_5gs.specs.Containers.{container_place, last_octet, s1_to_n1, n1_to_s1_of, verify_n1_to_s1_of, s1_to_n1_of, verify_s1_to_n1_of}
pub use Rattle.promise.proofs.Told.{alone}
use Rattle.promise.proofs.Told.{split}
use Rattle.promises.specs.Calls.{Call, set_window, reselect, seal5gs, seal_opaque, seal_initial, open5gs, seal_eps, open_eps, make_n1_to_s1, verify_n1_to_s1, make_s1_to_n1, verify_s1_to_n1, Outcome, outcome, gives, lent}
use Rattle.promises.proofs.Shapes.{refusal_of, opened_first, first-open, octet_found, octet_refused, octet_used}

abbrev pub sends : Context → ℕ → (ℕ → List ℕ) → List ℕ → Outcome
sends x p made out = outcome use_values (use_next x p made out)

abbrev pub passes : Call → Context → Outcome
passes (set_window n) x = record { values = success; context = resized x n; output = [] }
passes (reselect i c ik ck) x =
    record { values = success; context = record { core = core_with i c (key_of ik) (key_of ck) x.core.size; records = (kept_for x i).records }; output = [] }
passes (seal5gs t d k inner out) x = sends x (place_of d k) (λ c. envelope x.core t c (bearer_no k) (direction_no d) inner) out
passes (seal_opaque t d k inner out) x = sends x (place_of d k) (λ c. envelope x.core t c (bearer_no k) (direction_no d) inner) out
passes (seal_initial k w out) x = sends x (place_of Uplink k) (λ c. initial_envelope x.core c (bearer_no k) w) out
passes (open5gs d k m out out2) x = outcome open_values (opened_first x (place_of d k) (bearer_no k) (direction_no d) m out)
passes (seal_eps inner out) x = sends x eps_place (λ c. eps_message x.core c inner) out
passes (open_eps m out) x = outcome eps_open_values (eps_opened x m out)
passes make_n1_to_s1 x = outcome octet_values (last_octet x (next_at x container_place))
passes (verify_n1_to_s1 s) x = outcome verify_values (received x container_place (octet_refused x s) (octet_used x s) (octet_found x s))
passes (make_s1_to_n1 ncc ngksi out) x = sends x container_place (λ c. s1_to_n1 x.core ncc ngksi) out
passes (verify_s1_to_n1 v) x = sends x container_place (λ c. []) []

pub gives-is : (k : Call) (x : Context) → gives k x ≡ refused_or (refusal_of k x) (λ n. alone n x (lent k)) (passes k x)
unfolding window_of reselect_of seal_of seal_opaque_of sent initial_of sent_initial seal_eps_of open_eps_of n1_to_s1_of verify_n1_to_s1_of s1_to_n1_of verify_s1_to_n1_of
gives-is (set_window n) x = split change_values (refusal_of (set_window n) x) (λ j. leaves (change.Refused j) x []) (leaves change.Done (resized x n) [])
gives-is (reselect i c ik ck) x =
    split change_values (refusal_of (reselect i c ik ck) x) (λ j. leaves (change.Refused j) x [])
    (leaves change.Done (record { core = core_with i c (key_of ik) (key_of ck) x.core.size; records = (kept_for x i).records }) [])
gives-is (seal5gs t d k inner out) x =
    split use_values (refusal_of (seal5gs t d k inner out) x) (λ j. leaves (use'.Refused j) x out)
    (use_next x (place_of d k) (λ c. envelope x.core t c (bearer_no k) (direction_no d) inner) out)
gives-is (seal_opaque t d k inner out) x =
    split use_values (refusal_of (seal_opaque t d k inner out) x) (λ j. leaves (use'.Refused j) x out)
    (use_next x (place_of d k) (λ c. envelope x.core t c (bearer_no k) (direction_no d) inner) out)
gives-is (seal_initial k w out) x =
    split use_values (refusal_of (seal_initial k w out) x) (λ j. leaves (use'.Refused j) x out)
    (use_next x (place_of Uplink k) (λ c. initial_envelope x.core c (bearer_no k) w) out)
gives-is (open5gs d k m out out2) x =
    ap (outcome open_values) (first-open x d k m out out2)
    ∙ split open_values (refusal_of (open5gs d k m out out2) x) (λ j. leaves (open'.Refused j) x out) (opened_first x (place_of d k) (bearer_no k) (direction_no d) m out)
gives-is (seal_eps inner out) x =
    split use_values (refusal_of (seal_eps inner out) x) (λ j. leaves (use'.Refused j) x out) (use_next x eps_place (λ c. eps_message x.core c inner) out)
gives-is (open_eps m out) x = split eps_open_values (refusal_of (open_eps m out) x) (λ j. leaves (eps.Refused j) x out) (eps_opened x m out)
gives-is make_n1_to_s1 x =
    split octet_values (refusal_of make_n1_to_s1 x) (λ j. leaves (octet.Refused j) x []) (last_octet x (next_at x container_place))
gives-is (verify_n1_to_s1 s) x =
    split verify_values (refusal_of (verify_n1_to_s1 s) x) (λ j. leaves (verify.Refused j) x [])
    (received x container_place (octet_refused x s) (octet_used x s) (octet_found x s))
gives-is (make_s1_to_n1 ncc ngksi out) x =
    split use_values (refusal_of (make_s1_to_n1 ncc ngksi out) x) (λ j. leaves (use'.Refused j) x out)
    (use_next x container_place (λ c. s1_to_n1 x.core ncc ngksi) out)
gives-is (verify_s1_to_n1 v) x =
    split use_values (refusal_of (verify_s1_to_n1 v) x) (λ j. leaves (use'.Refused j) x []) (use_next x container_place (λ c. []) [])

module _ (k : Call) (x : Context) where
  pub gives-passed : refusal_of k x ≡ 0 → gives k x ≡ passes k x
  gives-passed e = rw (gives-is k x, eq-eqb (refusal_of k x) 0 e)

  pub gives-refused : (refusal_of k x ≡ 0 → ⊥) → gives k x ≡ alone (refusal_of k x) x (lent k)
  gives-refused n = rw (gives-is k x, ne_eqb (refusal_of k x) 0 n)

-- a refused call uses no COUNT
pub uses-passed : (k : Call) (x : Context) → (gives k x).values.uses ≡ true → refusal_of k x ≡ 0
uses-passed k x u = go (eqb (refusal_of k x) 0) refl
  where
    go : (t : Bool) → eqb (refusal_of k x) 0 ≡ t → refusal_of k x ≡ 0
    go true e = eqb-true (refusal_of k x) 0 e
    go false e =
        let q = gives-refused k x (eqb-false (refusal_of k x) 0 e) in
        let h : false ≡ true = sym (ap (λ (o : Outcome). o.values.uses) q) ∙ u in
        let z : ◌≡◌ {A = ℕ} 0 1 = cc in absurd (omega arith)
