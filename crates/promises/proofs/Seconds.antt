-- The second output: what a call leaves there.
use Rattle.std.specs.Prelude.{Option, None, Some, Result, Ok, Err}
use Prim.Native.Nat.{ℕ, ◌-◌, ◌≤◌}
use mathlib.Core.Path.{◌≡◌, refl, sym, ap, ◌∙◌}
use mathlib.Core.Bool.{Bool, true, false, cond}
use mathlib.Core.List.{List, []}
use native.Mathlib.Omega.{arith}
use lib.ListN.{length, drop, length-append, length-drop, length-take}
use lib.Seq.{drop-append_seam}
use lib.Dec.{eqb}
use borrow.Author.Tests.{eqb-true, eqb-false, ne_eqb}
use Rattle.count.specs.Rule.{Opening, distance_of}
use Rattle.count.specs.declared.Taken.TheVariants.{Late, Forward}
use Rattle.count.specs.declared.Missed.TheVariants.{NoCandidate, WrongCode}
use Rattle.nas_core.specs.declared.Core.{Core}
use Rattle.nas_core.specs.Keyed.{payload}
use Rattle.nas_core.proofs.Keys.{payload-length}
use Rattle.initial.specs.declared.Span.{Span}
use Rattle.initial.specs.declared.Unwalkable.{Unwalkable}
use Rattle.initial.specs.Walk.{container_of}
use Rattle.initial.specs.Inside.{Hidden, refused, handed, is_asked, is_inside, value_at, of_type, hidden_in, hidden_of}
use Rattle.envelope.specs.Initial.{beside_of, beside}
use Rattle.envelope.proofs.Insides.{asked_is}
use Rattle.nas_5gs.specs.declared.Context.{Context}
use Rattle.nas_core.specs.declared.Direction.{Direction}
use Rattle.nas_5gs.specs.declared.Connection.{Connection}
use Rattle.nas_5gs.specs.OpenAnswer as open'
use Rattle.nas_5gs.specs.Places.{direction_no, bearer_no, place_of, record_at}
use Rattle.nas_5gs.specs.EpsOpenAnswer as eps
use Rattle.nas_5gs.specs.Leaves.{leaves, over, use_next, received, open_values, eps_open_values, verify_values, Values}
use Rattle.nas_5gs.specs.Envelope.{ciphers}
use Rattle.nas_5gs.specs.Open.{type_of, inside_number}
use Rattle.nas_5gs.specs.Eps.{eps_place, not_eps, eps_opened, eps_handed}
use Rattle.nas_5gs.specs.Containers.{container_place}
use Rattle.nas_5gs.proofs.Handed.{nothing}
use Rattle.nas_5gs.proofs.Passed.{open-passed, rooms}
use Rattle.promises.specs.Calls.{Call, set_window, reselect, seal5gs, seal_opaque, seal_initial, open5gs, seal_eps, open_eps, make_n1_to_s1, verify_n1_to_s1, make_s1_to_n1, verify_s1_to_n1, Outcome, outcome, gives, second, lent, lent_second}
use Rattle.promises.proofs.Shapes.{refusal_of, found, plain, look, inside, carried, opened_as, not_opened, opened_second, second-open, eps_found, eps_as, octet_found, octet_refused, octet_used}
use Rattle.promises.proofs.Passing.{passes, alone, gives-is, gives-passed, gives-refused}
use Rattle.promises.proofs.Taking.{left, open-answering, eps-answering}

-- what is said of a second output s and of the values of the answer, where r was lent
pub record Seconds (v : Values) (s r : List ℕ) : Type 0 where
  pub behind : drop v.second s ≡ drop v.second r
  pub room : length s ≡ length r
  pub within : v.second ≤ length r
  pub untouched : (v.number ≡ 0 → ⊥) → (v.second ≡ 0) × (s ≡ r)

-- nothing is written there
none_written : (v : Values) (s r : List ℕ) → v.second ≡ 0 → s ≡ r → Seconds v s r
none_written v s r z e = record { behind = ap (drop v.second) e; room = ap length e; within = omega arith; untouched = λ n. (z, e) }

-- octets are, by a success alone
written_over : (v : Values) (q r : List ℕ) → v.second ≡ length q → length q ≤ length r → ((v.number ≡ 0 → ⊥) → q ≡ []) → Seconds v (over q r) r
written_over v q r n fit none =
    record {
      behind = rw n (drop-append_seam q (drop (length q) r));
      room = simp (length-append, length-drop) (omega arith);
      within = omega arith;
      untouched = λ h. let e = none h in (n ∙ ap length e, ap (λ (l : List ℕ). over l r) e);
    }

-- where a number is carried, there are no octets
carries-none : (n : ℕ) (h : Hidden) → ((n ≡ 0 → ⊥) → h ≡ handed []) → (inside_number n h ≡ 0 → ⊥) → beside h ≡ []
unfolding inside_number
carries-none n refused f c = refl
carries-none n (handed q) f c = go (eqb n 0) refl
  where
    go : (t : Bool) → eqb n 0 ≡ t → q ≡ []
    go true e = let z = eqb-true n 0 e in absurd (c (simp z))
    go false e = let z : handed q ≡ handed [] = f (eqb-false n 0 e) in cc

-- and no more than the plaintext has
type-short : (p q : List ℕ) (n : ℕ) → length q ≤ n → length (beside (of_type p q)) ≤ n
type-short p q n h = go (is_inside p q)
  where
    go : (t : Bool) → length (beside (cond t (handed q) refused)) ≤ n
    go true = h
    go false = omega arith

module _ (x : Core) (t c b d : ℕ) (p : List ℕ) (n : ℕ) where
  in-short : (o : Result (Option Span) Unwalkable) → length p ≤ n → length (beside (hidden_in (λ v. payload x true c b 0 v) p o)) ≤ n
  in-short (Err e) h = omega arith
  in-short (Ok None) h = omega arith
  in-short (Ok (Some s)) h =
      let v = value_at p s.start s.length in
      let l : length v ≤ length p = simp (length-take, length-drop) (omega arith) in
      type-short p (payload x true c b 0 v) n (omega (arith, payload-length x c b 0 v true))

  inside-short : (t ≡ 1 → d ≡ 0 → length p ≤ n) → length (beside (beside_of x t c b d p)) ≤ n
  unfolding beside_of hidden_of
  inside-short h = go (is_asked t d p) refl
    where
      go : (a : Bool) → is_asked t d p ≡ a → length (beside (cond a (hidden_in (λ v. payload x true c b 0 v) p (container_of p)) (handed []))) ≤ n
      go true e = let k = asked_is t d p e in in-short (container_of p) (h k.0 k.1)
      go false e = omega arith

-- 5GS open
module _ (x : Context) (p b d : ℕ) (m out : List ℕ) where
  abbrev values_as : ℕ → Values
  values_as c = open_values (opened_as x p b d m out c)

  empty : (c : ℕ) → (carried x p b d m out c ≡ 0 → ⊥) → beside (inside x p b d m out c) ≡ []
  empty c n = carries-none (look x p b d m out c) (inside x p b d m out c) (nothing x.core (type_of m) c b d (plain x p b d m out c)) n

  pub second-as : (c : ℕ) → (values_as c).second ≡ length (beside (inside x p b d m out c))
  second-as c = go (eqb (carried x p b d m out c) 0) refl
    where
      go : (t : Bool) → eqb (carried x p b d m out c) 0 ≡ t
          → (open_values (
          cond t (open'.Accepted c (distance_of (record_at x p) c) (length (plain x p b d m out c)) (type_of m) (length (beside (inside x p b d m out c))))
          (open'.Content c (distance_of (record_at x p) c) (length (plain x p b d m out c)) (type_of m) (carried x p b d m out c)))).second
          ≡ length (beside (inside x p b d m out c))
      go true e = refl
      go false e = sym (ap length (empty c (eqb-false (carried x p b d m out c) 0 e)))

  number-as : (c : ℕ) → ((values_as c).number ≡ 0 → ⊥) → beside (inside x p b d m out c) ≡ []
  number-as c = go (eqb (carried x p b d m out c) 0) refl
    where
      go : (t : Bool) → eqb (carried x p b d m out c) 0 ≡ t
          → ((open_values (
          cond t (open'.Accepted c (distance_of (record_at x p) c) (length (plain x p b d m out c)) (type_of m) (length (beside (inside x p b d m out c))))
          (open'.Content c (distance_of (record_at x p) c) (length (plain x p b d m out c)) (type_of m) (carried x p b d m out c)))).number ≡ 0 → ⊥)
          → beside (inside x p b d m out c) ≡ []
      go true e n = absurd (n refl)
      go false e n = empty c (eqb-false (carried x p b d m out c) 0 e)

  short : (c : ℕ) (out2 : List ℕ) → (type_of m ≡ 1 → d ≡ 0 → length m - 7 ≤ length out2) → length (beside (inside x p b d m out c)) ≤ length out2
  short c out2 fit =
      inside-short x.core (type_of m) c b d (plain x p b d m out c) (length out2)
      (λ t u. let f = fit t u in omega (arith, payload-length x.core c b d (drop 7 m) (ciphers (type_of m)), length-drop 7 m))

  abbrev first_by : Opening → Outcome
  first_by o = outcome open_values (received x p (not_opened x p b d m out) (λ c y. leaves (opened_as x p b d m out c) y (over (plain x p b d m out c) out)) o)

  abbrev second_by : List ℕ → Opening → List ℕ
  second_by out2 o = received x p (λ n. out2) (λ c y. over (beside (inside x p b d m out c)) out2) o

  by-found : (out2 : List ℕ) → (type_of m ≡ 1 → d ≡ 0 → length m - 7 ≤ length out2) → (o : Opening) → Seconds (first_by o).values (second_by out2 o) out2
  by-found out2 fit (Err NoCandidate) = none_written (first_by (Err NoCandidate)).values out2 out2 refl refl
  by-found out2 fit (Err WrongCode) = none_written (first_by (Err WrongCode)).values out2 out2 refl refl
  by-found out2 fit (Ok (Late c)) = written_over (values_as c) (beside (inside x p b d m out c)) out2 (second-as c) (short c out2 fit) (number-as c)
  by-found out2 fit (Ok (Forward c)) = written_over (values_as c) (beside (inside x p b d m out c)) out2 (second-as c) (short c out2 fit) (number-as c)

  pub told-second : (out2 : List ℕ) (o : Opening) → ((first_by o).values.uses ≡ true)
      → ((first_by o).values.second ≡ length (beside (inside x p b d m out (first_by o).values.count)))
      × (second_by out2 o ≡ over (beside (inside x p b d m out (first_by o).values.count)) out2)
  told-second out2 (Err NoCandidate) u = let z : ◌≡◌ {A = ℕ} 0 1 = cc in absurd (omega arith)
  told-second out2 (Err WrongCode) u = let z : ◌≡◌ {A = ℕ} 0 1 = cc in absurd (omega arith)
  told-second out2 (Ok (Late c)) u = rw ((open-answering x p b d m out).count c) (second-as c, refl)
  told-second out2 (Ok (Forward c)) u = rw ((open-answering x p b d m out).count c) (second-as c, refl)

module _ (x : Context) (d : Direction) (k : Connection) (m out out2 : List ℕ) (e : refusal_of (open5gs d k m out out2) x ≡ 0) where
  pub second-left : second (open5gs d k m out out2) x ≡ opened_second x (place_of d k) (bearer_no k) (direction_no d) m out out2
  second-left = second-open x d k m out out2 ∙ rw e

  open-seconds : Seconds (gives (open5gs d k m out out2) x).values (second (open5gs d k m out out2) x) out2
  open-seconds =
      let q = open-passed x m _ e in
      rw (gives-passed (open5gs d k m out out2) x e, second-left)
      (by-found x (place_of d k) (bearer_no k) (direction_no d) m out out2 (rooms (type_of m) (direction_no d) (length m - 7) (length out) (length out2) q.room).1
      (found x (place_of d k) (bearer_no k) (direction_no d) m out))

-- every other call answers none
zero-by : (k : Call) (x : Context) → (passes k x).values.second ≡ 0 → (gives k x).values.second ≡ 0
zero-by k x e = rw (gives-is k x) (go (eqb (refusal_of k x) 0))
  where
    go : (t : Bool) → (cond t (passes k x) (alone (refusal_of k x) x (lent k))).values.second ≡ 0
    go true = e
    go false = refl

eps-zero : (x : Context) (m out : List ℕ) (o : Opening)
    → (left eps_open_values eps.Refused (eps_as x m out) (λ c. drop 6 m) (eps-answering x m out) x eps_place out o).values.second ≡ 0
eps-zero x m out (Err NoCandidate) = refl
eps-zero x m out (Err WrongCode) = refl
eps-zero x m out (Ok (Late c)) = go (not_eps (drop 6 m))
  where
    go : (t : Bool) → (eps_open_values (cond t (eps.Content c (distance_of (record_at x eps_place) c) (length (drop 6 m)) 12) (eps.Accepted c (distance_of (record_at x eps_place) c) (length (drop 6 m))))).second ≡ 0
    go true = refl
    go false = refl
eps-zero x m out (Ok (Forward c)) = go (not_eps (drop 6 m))
  where
    go : (t : Bool) → (eps_open_values (cond t (eps.Content c (distance_of (record_at x eps_place) c) (length (drop 6 m)) 12) (eps.Accepted c (distance_of (record_at x eps_place) c) (length (drop 6 m))))).second ≡ 0
    go true = refl
    go false = refl

octet-zero : (x : Context) (s : ℕ) (o : Opening) → (outcome verify_values (received x container_place (octet_refused x s) (octet_used x s) o)).values.second ≡ 0
octet-zero x s (Err NoCandidate) = refl
octet-zero x s (Err WrongCode) = refl
octet-zero x s (Ok (Late c)) = refl
octet-zero x s (Ok (Forward c)) = refl

pub seconds : (k : Call) (x : Context) → Seconds (gives k x).values (second k x) (lent_second k)
unfolding use_next eps_opened eps_handed
seconds (set_window n) x = none_written _ [] [] (zero-by (set_window n) x refl) refl
seconds (reselect i c ik ck) x = none_written _ [] [] (zero-by (reselect i c ik ck) x refl) refl
seconds (seal5gs t d k inner out) x = none_written _ [] [] (zero-by (seal5gs t d k inner out) x refl) refl
seconds (seal_opaque t d k inner out) x = none_written _ [] [] (zero-by (seal_opaque t d k inner out) x refl) refl
seconds (seal_initial k w out) x = none_written _ [] [] (zero-by (seal_initial k w out) x refl) refl
seconds (open5gs d k m out out2) x = go (eqb (refusal_of (open5gs d k m out out2) x) 0) refl
  where
    go : (t : Bool) → eqb (refusal_of (open5gs d k m out out2) x) 0 ≡ t → Seconds (gives (open5gs d k m out out2) x).values (second (open5gs d k m out out2) x) out2
    go true e = open-seconds x d k m out out2 (eqb-true (refusal_of (open5gs d k m out out2) x) 0 e)
    go false e =
        let n = eqb-false (refusal_of (open5gs d k m out out2) x) 0 e in
        rw (gives-refused (open5gs d k m out out2) x n) (none_written _ _ _ refl (second-open x d k m out out2 ∙ rw (ne_eqb (refusal_of (open5gs d k m out out2) x) 0 n)))
seconds (seal_eps inner out) x = none_written _ [] [] (zero-by (seal_eps inner out) x refl) refl
seconds (open_eps m out) x = none_written _ [] [] (zero-by (open_eps m out) x (eps-zero x m out (eps_found x m out))) refl
seconds make_n1_to_s1 x = none_written _ [] [] (zero-by make_n1_to_s1 x refl) refl
seconds (verify_n1_to_s1 s) x = none_written _ [] [] (zero-by (verify_n1_to_s1 s) x (octet-zero x s (octet_found x s))) refl
seconds (make_s1_to_n1 ncc ngksi out) x = none_written _ [] [] (zero-by (make_s1_to_n1 ncc ngksi out) x refl) refl
seconds (verify_s1_to_n1 v) x = none_written _ [] [] (zero-by (verify_s1_to_n1 v) x refl) refl
