-- The distance that a call tells.
use Rattle.std.specs.Prelude.{None, Some, Ok, Err}
use Prim.Native.Nat.{ℕ, ◌+◌, ◌-◌, ◌%◌, ◌≤◌}
use mathlib.Core.Path.{◌≡◌, refl, sym, ap, ◌∙◌, subst}
use mathlib.Core.Bool.{Bool, true, false, cond}
use mathlib.Core.Logic.{inl, inr}
use mathlib.Core.List.{List, []}
use native.Mathlib.Omega.{arith}
use lib.ListN.{length, get_or, drop}
use lib.Dec.{eqb}
use borrow.Author.Tests.{eqb-true, eqb-false}
use Rattle.count.specs.declared.Record.{Record}
use Rattle.count.specs.Rule.{Opening, exhausted, distance_of, forward_of, late_of, opening, forward_only}
use Rattle.count.specs.declared.Taken.TheVariants.{Late, Forward}
use Rattle.count.specs.declared.Missed.TheVariants.{NoCandidate, WrongCode}
use Rattle.count.proofs.Candidates.{never}
use Rattle.count.proofs.Openings.{answers}
use Rattle.count.proofs.Skipped.{distances}
use Rattle.nas_core.specs.Keyed.{wraps}
use Rattle.nas_core.specs.Verify.{fits, verify_of}
use Rattle.envelope.specs.Initial.{beside}
use Rattle.nas_5gs.specs.declared.Context.{Context}
use Rattle.nas_5gs.specs.OpenAnswer as open'
use Rattle.nas_5gs.specs.EpsOpenAnswer as eps
use Rattle.nas_5gs.specs.VerifyAnswer as verify
use Rattle.nas_5gs.specs.Places.{direction_no, bearer_no, place_of, record_at, next_at, fault_of}
use Rattle.nas_5gs.specs.Leaves.{leaves, over, use_next, received, Values, open_values, eps_open_values, verify_values}
use Rattle.nas_5gs.specs.Open.{type_of}
use Rattle.nas_5gs.specs.Eps.{eps_place, eps_bearer, eps_direction, not_eps, eps_handed, eps_opened}
use Rattle.nas_5gs.specs.Containers.{container_place}
use Rattle.promises.specs.Calls.{Call, set_window, reselect, seal5gs, seal_opaque, seal_initial, open5gs, seal_eps, open_eps, make_n1_to_s1, verify_n1_to_s1, make_s1_to_n1, verify_s1_to_n1, Outcome, outcome, gives, lent, place_in}
use Rattle.promises.specs.Demand1.{MayBeLate}
use Rattle.promises.specs.Skipped.{Tells, Counted, Skipped}
use Rattle.promises.proofs.Shapes.{refusal_of, found, plain, inside, carried, opened_as, eps_found, eps_as, octet_found, octet_as}
use Rattle.promises.proofs.Passing.{passes, alone, gives-is, gives-passed, uses-passed}
use Rattle.promises.proofs.Taking.{open-answering, eps-answering}
use Rattle.promises.proofs.Numbers.{fault-first}
use Rattle.promises.proofs.Faults.{faultless}
use Rattle.promises.proofs.Demand1.{octet-never-late}

abbrev Fixed : Record → Outcome → Type 0
Fixed r o = o.values.uses ≡ true → o.values.distance ≡ distance_of r o.values.count

module _ {A : Type 0} (v : A → Values) (no' yes' : ℕ → A) (x : Context) (p : ℕ) (plain_of_lem : ℕ → List ℕ) (out : List ℕ)
    (refuses : (n : ℕ) → (v (no' n)).uses ≡ false) (count : (c : ℕ) → (v (yes' c)).count ≡ c)
    (far : (c : ℕ) → (v (yes' c)).distance ≡ distance_of (record_at x p) c) where
  abbrev left_as : Opening → Outcome
  left_as o = outcome v (received x p (λ n. leaves (no' n) x out) (λ c z. leaves (yes' c) z (over (plain_of_lem c) out)) o)

  fixed : (o : Opening) → Fixed (record_at x p) (left_as o)
  fixed (Err NoCandidate) u = let z : ◌≡◌ {A = ℕ} 0 1 = cc (refuses 6) in absurd (omega arith)
  fixed (Err WrongCode) u = let z : ◌≡◌ {A = ℕ} 0 1 = cc (refuses 7) in absurd (omega arith)
  fixed (Ok (Late c)) u = far c ∙ ap (distance_of (record_at x p)) (sym (count c))
  fixed (Ok (Forward c)) u = far c ∙ ap (distance_of (record_at x p)) (sym (count c))

  counted : (L : Type 0) (o : Opening)
      → ((c : ℕ) → o ≡ Ok (Forward c) → (next_at x p + distance_of (record_at x p) c) % exhausted ≡ c)
      → ((c : ℕ) → o ≡ Ok (Late c) → L × (c + distance_of (record_at x p) c ≡ next_at x p - 1))
      → (left_as o).values.uses ≡ true → Counted L x p (left_as o)
  counted L (Err NoCandidate) a l u = let z : ◌≡◌ {A = ℕ} 0 1 = cc (refuses 6) in absurd (omega arith)
  counted L (Err WrongCode) a l u = let z : ◌≡◌ {A = ℕ} 0 1 = cc (refuses 7) in absurd (omega arith)
  counted L (Ok (Late c)) a l u = let q = l c refl in inr (q.0, rw (count c), rw (far c, count c) q.1)
  counted L (Ok (Forward c)) a l u = inl (rw (count c), rw (far c, count c) (a c refl))

-- what an opening finds lies so far away
module _ (w : Bool) (fit : ℕ → Bool) (size : ℕ) (r : Record) (s c : ℕ) where
  forward-far : opening 8 w fit size r s ≡ Ok (Forward c) → (r.next + distance_of r c) % exhausted ≡ c
  unfolding opening
  forward-far e =
      ((distances 8 r s).forward w c (omega arith) ((answers fit (cond w None (late_of 8 size r s)) (forward_of 8 w r s) (Ok (Forward c))).0 e).1).1

  late-far : size ≤ 64 → opening 8 w fit size r s ≡ Ok (Late c) → c + distance_of r c ≡ r.next - 1
  unfolding opening
  late-far small e = go w ((answers fit (cond w None (late_of 8 size r s)) (forward_of 8 w r s) (Ok (Late c))).0 e).0
    where
      go : (t : Bool) → cond t None (late_of 8 size r s) ≡ Some c → c + distance_of r c ≡ r.next - 1
      go true q = never q
      go false q = (distances 8 r s).late size c small q

open-far : (c f w t n s : ℕ) (b : Bool) → (open_values (cond b (open'.Accepted c f w t s) (open'.Content c f w t n))).distance ≡ f
open-far c f w t n s true = refl
open-far c f w t n s false = refl

eps-far : (c f w : ℕ) (b : Bool) → (eps_open_values (cond b (eps.Content c f w 12) (eps.Accepted c f w))).distance ≡ f
eps-far c f w true = refl
eps-far c f w false = refl

module _ (x : Context) where
  open_told : (p b f : ℕ) (m out : List ℕ) (c : ℕ) → (open_values (opened_as x p b f m out c)).distance ≡ distance_of (record_at x p) c
  open_told p b f m out c =
      open-far c (distance_of (record_at x p) c) (length (plain x p b f m out c)) (type_of m) (carried x p b f m out c) (length (beside (inside x p b f m out c))) (eqb (carried x p b f m out c) 0)

  eps-told : (m out : List ℕ) (c : ℕ) → (eps_open_values (eps_as x m out c)).distance ≡ distance_of (record_at x eps_place) c
  eps-told m out c = eps-far c (distance_of (record_at x eps_place) c) (length (drop 6 m)) (not_eps (drop 6 m))

  passes-counted : (k : Call) → Tells k → x.core.size ≤ 64 → (passes k x).values.uses ≡ true → Counted (MayBeLate k) x (place_in k) (passes k x)
  unfolding eps_opened eps_handed verify_of forward_only
  passes-counted (set_window n) t small = absurd t
  passes-counted (reselect i c ik ck) t small = absurd t
  passes-counted (seal5gs h d k inner out) t small = absurd t
  passes-counted (seal_opaque h d k inner out) t small = absurd t
  passes-counted (seal_initial k w out) t small = absurd t
  passes-counted (open5gs d k m out out2) t small =
      let b = bearer_no k in let f = direction_no d in let p = place_of d k in
      let fit : ℕ → Bool = λ c. fits x.core c b f 2 m in
      counted open_values open'.Refused (opened_as x p b f m out) x p (plain x p b f m out) out (λ n. refl) (open-answering x p b f m out).count
      (open_told p b f m out) (Unit {0}) (found x p b f m out)
      (λ c. forward-far (wraps x.core) fit x.core.size (record_at x p) (get_or m 6 0) c)
      (λ c e. (tt, late-far (wraps x.core) fit x.core.size (record_at x p) (get_or m 6 0) c small e))
  passes-counted (seal_eps inner out) t small = absurd t
  passes-counted (open_eps m out) t small =
      let fit : ℕ → Bool = λ c. fits x.core c eps_bearer eps_direction 1 m in
      counted eps_open_values eps.Refused (eps_as x m out) x eps_place (λ c. drop 6 m) out (λ n. refl) (eps-answering x m out).count (eps-told m out)
      (Unit {0}) (eps_found x m out)
      (λ c. forward-far (wraps x.core) fit x.core.size (record_at x eps_place) (get_or m 5 0) c)
      (λ c e. (tt, late-far (wraps x.core) fit x.core.size (record_at x eps_place) (get_or m 5 0) c small e))
  passes-counted make_n1_to_s1 t small = absurd t
  passes-counted (verify_n1_to_s1 s) t small =
      let r = record_at x container_place in
      counted verify_values verify.Refused (octet_as x s) x container_place (λ c. []) [] (λ n. refl) (λ c. refl) (λ c. refl) ⊥ (octet_found x s)
      (λ c e. ((distances 8 r s).forward (wraps x.core) c (omega arith) ((answers (λ n. true) None (forward_of 8 (wraps x.core) r s) (Ok (Forward c))).0 e).1).1)
      (λ c e. absurd (octet-never-late x s c e))
  passes-counted (make_s1_to_n1 ncc ngksi out) t small = absurd t
  passes-counted (verify_s1_to_n1 v) t small = absurd t

  used-faultless : (k : Call) → (gives k x).values.uses ≡ true → fault_of x ≡ 0
  used-faultless k u = go (eqb (fault_of x) 0) refl
    where
      go : (t : Bool) → eqb (fault_of x) 0 ≡ t → fault_of x ≡ 0
      go true e = eqb-true (fault_of x) 0 e
      go false e = let n = eqb-false (fault_of x) 0 e in sym (fault-first k x n) ∙ uses-passed k x u

  told-counted : (k : Call) → Tells k → (gives k x).values.uses ≡ true → Counted (MayBeLate k) x (place_in k) (gives k x)
  told-counted k t u =
      let e = gives-passed k x (uses-passed k x u) in
      let small = (faultless x (used-faultless k u)).small in
      subst (λ (o : Outcome). o.values.uses ≡ true → Counted (MayBeLate k) x (place_in k) o) (sym e) (passes-counted k t small) u

  passes-told : (k : Call) → Tells k → Fixed (record_at x (place_in k)) (passes k x)
  unfolding eps_opened eps_handed
  passes-told (set_window n) t = absurd t
  passes-told (reselect i c ik ck) t = absurd t
  passes-told (seal5gs h d k inner out) t = absurd t
  passes-told (seal_opaque h d k inner out) t = absurd t
  passes-told (seal_initial k w out) t = absurd t
  passes-told (open5gs d k m out out2) t =
      let b = bearer_no k in let f = direction_no d in let p = place_of d k in
      fixed open_values open'.Refused (opened_as x p b f m out) x p (plain x p b f m out) out (λ n. refl) (open-answering x p b f m out).count
      (open_told p b f m out) (found x p b f m out)
  passes-told (seal_eps inner out) t = absurd t
  passes-told (open_eps m out) t =
      fixed eps_open_values eps.Refused (eps_as x m out) x eps_place (λ c. drop 6 m) out (λ n. refl) (eps-answering x m out).count
      (eps-told m out) (eps_found x m out)
  passes-told make_n1_to_s1 t = absurd t
  passes-told (verify_n1_to_s1 s) t =
      fixed verify_values verify.Refused (octet_as x s) x container_place (λ c. []) [] (λ n. refl) (λ c. refl) (λ c. refl) (octet_found x s)
  passes-told (make_s1_to_n1 ncc ngksi out) t = absurd t
  passes-told (verify_s1_to_n1 v) t = absurd t

  told : (k : Call) → Tells k → Fixed (record_at x (place_in k)) (gives k x)
  told k t u =
      let e = gives-passed k x (uses-passed k x u) in
      subst (Fixed (record_at x (place_in k))) (sym e) (passes-told k t) u

  passes-silent : (k : Call) → (Tells k → ⊥) → (passes k x).values.distance ≡ 0
  unfolding use_next
  passes-silent (set_window n) t = refl
  passes-silent (reselect i c ik ck) t = refl
  passes-silent (seal5gs h d k inner out) t = refl
  passes-silent (seal_opaque h d k inner out) t = refl
  passes-silent (seal_initial k w out) t = refl
  passes-silent (open5gs d k m out out2) t = absurd (t tt)
  passes-silent (seal_eps inner out) t = refl
  passes-silent (open_eps m out) t = absurd (t tt)
  passes-silent make_n1_to_s1 t = refl
  passes-silent (verify_n1_to_s1 s) t = absurd (t tt)
  passes-silent (make_s1_to_n1 ncc ngksi out) t = refl
  passes-silent (verify_s1_to_n1 v) t = refl

  silent : (k : Call) → (Tells k → ⊥) → (gives k x).values.distance ≡ 0
  silent k t = rw (gives-is k x) (go (eqb (refusal_of k x) 0))
    where
      go : (b : Bool) → (cond b (passes k x) (alone (refusal_of k x) x (lent k))).values.distance ≡ 0
      go true = passes-silent k t
      go false = refl

pub skipped : Skipped
skipped =
    record {
      counted = λ k x. told-counted x k;
      told = λ k x. told x k;
      agree = λ k k' x x' t t' u u' e f.
          let q : distance_of (record_at x (place_in k)) (gives k x).values.count ≡ distance_of (record_at x' (place_in k')) (gives k' x').values.count =
          λ i. distance_of (f i) (e i) in
          told x k t u ∙ q ∙ sym (told x' k' t' u');
      silent = λ k x. silent x k;
    }
