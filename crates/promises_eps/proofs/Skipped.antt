-- The distance that an open tells.
use Rattle.std.specs.Prelude.{None, Some, Ok, Err}
use Prim.Native.Nat.{ℕ, ◌+◌, ◌-◌, ◌%◌, ◌≤◌, ◌<◌}
use mathlib.Core.Path.{◌≡◌, refl, sym, ap, ◌∙◌, subst}
use mathlib.Core.Bool.{Bool, true, false, cond}
use mathlib.Core.Logic.{inl, inr}
use mathlib.Core.List.{List}
use native.Mathlib.Omega.{arith}
use lib.ListN.{get_or}
use lib.Dec.{eqb}
use borrow.Author.Tests.{eqb-true, eqb-false}
use Rattle.count.specs.declared.Record.{Record}
use Rattle.count.specs.Rule.{Opening, exhausted, distance_of, forward_of, late_of, opening, forward_only}
use Rattle.count.specs.declared.Taken.TheVariants.{Late, Forward}
use Rattle.count.specs.declared.Missed.TheVariants.{NoCandidate, WrongCode}
use Rattle.count.proofs.Candidates.{never}
use Rattle.count.proofs.Distance.{distance-lt}
use Rattle.count.proofs.Openings.{answers}
use Rattle.count.proofs.Skipped.{distances}
use Rattle.nas_core.specs.declared.Core.{Core}
use Rattle.nas_core.specs.Keyed.{wraps}
use Rattle.nas_core.specs.Verify.{fits, verify_of}
use Rattle.nas_eps.specs.declared.Context.{Context}
use Rattle.nas_core.specs.declared.Direction.{Direction}
use Rattle.nas_eps.specs.Places.{place_of, record_at, next_at, fault_of}
use Rattle.nas_eps.specs.Leaves.{use_next, open_values}
use Rattle.nas_eps.specs.Octets.{bearer, is_request, short_fits, request_as}
use Rattle.promises_eps.specs.Calls.{Call, set_window, reselect, seal_message, seal_request, open_message, Outcome, gives, lent, place_in}
use Rattle.promises_eps.specs.Demand1.{MayBeLate}
use Rattle.promises_eps.specs.Skipped.{Tells, Counted, Skipped}
use Rattle.promises_eps.proofs.Shapes.{refusal_of, found, answer_as}
use Rattle.promises_eps.proofs.Passing.{passes, alone, gives-is, gives-passed, uses-passed}
use Rattle.promises_eps.proofs.Numbers.{fault-first}
use Rattle.promises_eps.proofs.Faults.{faultless}
use Rattle.promises_eps.proofs.Taking.{answering, left_by}
use Rattle.promises_eps.proofs.Demand1.{request-never-late}
use Rattle.promises_eps.proofs.Demand2.{found-used, requested-is}

-- what an opening finds lies so far away
module _ (x : Core) (r : Record) (p : ℕ) (m : List ℕ) (c : ℕ) where
  abbrev looked : Bool → Opening
  looked t = cond t (request_as x r m) (verify_of x r bearer p 1 m)

  forward-far : (t : Bool) → looked t ≡ Ok (Forward c) → (r.next + distance_of r c) % exhausted ≡ c
  unfolding verify_of request_as opening forward_only
  forward-far true e =
      let s = get_or m 1 0 % 32 in
      ((distances 5 r s).forward (wraps x) c (omega arith) ((answers (λ n. short_fits x n m) None (forward_of 5 (wraps x) r s) (Ok (Forward c))).0 e).1).1
  forward-far false e =
      let s = get_or m 5 0 in
      ((distances 8 r s).forward (wraps x) c (omega arith)
      ((answers (λ n. fits x n bearer p 1 m) (cond (wraps x) None (late_of 8 x.size r s)) (forward_of 8 (wraps x) r s) (Ok (Forward c))).0 e).1).1

  late-far : x.size ≤ 64 → verify_of x r bearer p 1 m ≡ Ok (Late c) → c + distance_of r c ≡ r.next - 1
  unfolding verify_of opening
  late-far small e =
      let s = get_or m 5 0 in
      go (wraps x) ((answers (λ n. fits x n bearer p 1 m) (cond (wraps x) None (late_of 8 x.size r s)) (forward_of 8 (wraps x) r s) (Ok (Late c))).0 e).0
    where
      go : (t : Bool) → cond t None (late_of 8 x.size r (get_or m 5 0)) ≡ Some c → c + distance_of r c ≡ r.next - 1
      go true q = never q
      go false q = (distances 8 r (get_or m 5 0)).late x.size c small q

module _ (x : Context) (p : ℕ) (m out : List ℕ) where
  far-as : (c : ℕ) (t : Bool) → (open_values (answer_as x p m t c)).distance ≡ distance_of (record_at x p) c
  far-as c true = refl
  far-as c false = refl

  fixed : (o : Opening) → let w = (left_by x p m out o).values in w.uses ≡ true → w.distance ≡ distance_of (record_at x p) w.count
  fixed (Err NoCandidate) u = let z : ◌≡◌ {A = ℕ} 0 1 = cc in absurd (omega arith)
  fixed (Err WrongCode) u = let z : ◌≡◌ {A = ℕ} 0 1 = cc in absurd (omega arith)
  fixed (Ok (Late c)) u = far-as c (is_request m) ∙ ap (distance_of (record_at x p)) (sym ((answering x p m).count c))
  fixed (Ok (Forward c)) u = far-as c (is_request m) ∙ ap (distance_of (record_at x p)) (sym ((answering x p m).count c))

  counted : (L : Type 0) (o : Opening) → ((c : ℕ) → o ≡ Ok (Forward c) → (next_at x p + distance_of (record_at x p) c) % exhausted ≡ c)
      → ((c : ℕ) → o ≡ Ok (Late c) → L × (c + distance_of (record_at x p) c ≡ next_at x p - 1))
      → (left_by x p m out o).values.uses ≡ true → Counted L x p (left_by x p m out o)
  counted L (Err NoCandidate) a l u = let z : ◌≡◌ {A = ℕ} 0 1 = cc in absurd (omega arith)
  counted L (Err WrongCode) a l u = let z : ◌≡◌ {A = ℕ} 0 1 = cc in absurd (omega arith)
  counted L (Ok (Late c)) a l u =
      let q = l c refl in
      let n = (answering x p m).count c in
      let f = far-as c (is_request m) in
      inr (q.0, rw n, rw (f, n) q.1)
  counted L (Ok (Forward c)) a l u =
      let n = (answering x p m).count c in
      let f = far-as c (is_request m) in
      inl (rw n, rw (f, n) (a c refl))

module _ (x : Context) where
  late-there : x.core.size ≤ 64 → (p : ℕ) (m : List ℕ) (c : ℕ) → found x p m ≡ Ok (Late c)
      → (is_request m ≡ false) × (c + distance_of (record_at x p) c ≡ next_at x p - 1)
  late-there small p m c e = go (is_request m) refl e
    where
      go : (t : Bool) → is_request m ≡ t → looked x.core (record_at x p) p m c t ≡ Ok (Late c)
          → (is_request m ≡ false) × (c + distance_of (record_at x p) c ≡ next_at x p - 1)
      go true q f = absurd (request-never-late x p m c f)
      go false q f = (q, late-far x.core (record_at x p) p m c small f)

  passes-counted : (k : Call) → Tells k → x.core.size ≤ 64 → (passes k x).values.uses ≡ true → Counted (MayBeLate k) x (place_in k) (passes k x)
  passes-counted (set_window n) t small = absurd t
  passes-counted (reselect i c ik ck) t small = absurd t
  passes-counted (seal_message h d inner out) t small = absurd t
  passes-counted (seal_request i out) t small = absurd t
  passes-counted (open_message d m out) t small =
      let p = place_of d in
      counted x p m out (is_request m ≡ false) (found x p m) (λ c. forward-far x.core (record_at x p) p m c (is_request m)) (λ c e. late-there small p m c e)

  used-faultless : (k : Call) → (gives k x).values.uses ≡ true → fault_of x ≡ 0
  used-faultless k u = go (eqb (fault_of x) 0) refl
    where
      go : (t : Bool) → eqb (fault_of x) 0 ≡ t → fault_of x ≡ 0
      go true e = eqb-true (fault_of x) 0 e
      go false e = let n = eqb-false (fault_of x) 0 e in sym (fault-first k x n) ∙ uses-passed k x u

  told-counted : (k : Call) → Tells k → (gives k x).values.uses ≡ true → Counted (MayBeLate k) x (place_in k) (gives k x)
  told-counted k t u =
      let e = gives-passed k x (uses-passed k x u) in
      let small = (faultless x (used-faultless k u)).small in
      subst (λ (o : Outcome). o.values.uses ≡ true → Counted (MayBeLate k) x (place_in k) o) (sym e) (passes-counted k t small) u

  abbrev Fixed : Record → Outcome → Type 0
  Fixed r o = o.values.uses ≡ true → o.values.distance ≡ distance_of r o.values.count

  passes-told : (k : Call) → Tells k → Fixed (record_at x (place_in k)) (passes k x)
  passes-told (set_window n) t = absurd t
  passes-told (reselect i c ik ck) t = absurd t
  passes-told (seal_message h d inner out) t = absurd t
  passes-told (seal_request i out) t = absurd t
  passes-told (open_message d m out) t = fixed x (place_of d) m out (found x (place_of d) m)

  told : (k : Call) → Tells k → Fixed (record_at x (place_in k)) (gives k x)
  told k t u =
      let e = gives-passed k x (uses-passed k x u) in
      subst (Fixed (record_at x (place_in k))) (sym e) (passes-told k t) u

  near : (d : Direction) (m out : List ℕ) → is_request m ≡ true → (gives (open_message d m out) x).values.uses ≡ true
      → (gives (open_message d m out) x).values.distance < 32
  near d m out is u =
      let r = record_at x (place_of d) in
      let c = (gives (open_message d m out) x).values.count in
      let s = get_or m 1 0 % 32 in
      let q = requested-is x.core r (place_of d) m c (rw is at (found-used x d m out c (u, refl))) in
      let e = told (open_message d m out) tt u ∙ ((distances 5 r s).forward (wraps x.core) c (omega arith) q.0).0 in
      omega (arith, distance-lt 5 r.next s)

  passes-silent : (k : Call) → (Tells k → ⊥) → (passes k x).values.distance ≡ 0
  unfolding use_next
  passes-silent (set_window n) t = refl
  passes-silent (reselect i c ik ck) t = refl
  passes-silent (seal_message h d inner out) t = refl
  passes-silent (seal_request i out) t = refl
  passes-silent (open_message d m out) t = absurd (t tt)

  silent : (k : Call) → (Tells k → ⊥) → (gives k x).values.distance ≡ 0
  silent k t = rw (gives-is k x) (go (eqb (refusal_of k x) 0))
    where
      go : (b : Bool) → (cond b (passes k x) (alone (refusal_of k x) x (lent k))).values.distance ≡ 0
      go true = passes-silent k t
      go false = refl

pub skipped : Skipped
skipped =
    record {
      counted = λ k x. told-counted x k;
      told = λ k x. told x k;
      agree = λ k k' x x' t t' u u' e f.
          let q : distance_of (record_at x (place_in k)) (gives k x).values.count ≡ distance_of (record_at x' (place_in k')) (gives k' x').values.count =
          λ i. distance_of (f i) (e i) in
          told x k t u ∙ q ∙ sym (told x' k' t' u');
      request = λ d m out x. near x d m out;
      silent = λ k x. silent x k;
    }
