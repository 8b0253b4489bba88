-- Demand 1.
use Rattle.std.specs.Prelude.{Option, None, Some, Ok, Err}
use Prim.Native.Nat.{ℕ, zero, suc, ◌+◌, ◌-◌, ◌≤◌, ◌<◌}
use mathlib.Core.Path.{◌≡◌, refl, sym, ap, ◌∙◌, subst}
use mathlib.Core.Bool.{Bool, true, false, cond, not, ◌||◌}
use mathlib.Core.Logic.{◌⊎◌, inl, inr}
use mathlib.Core.List.{List, [], ◌∷◌}
use native.Mathlib.Omega.{arith}
use lib.ListN.{length, get_or, drop, length-append, length-drop}
use lib.Dec.{eqb, ltb}
use borrow.Author.Tests.{eqb-true, eqb-false, lt-ltb, le-ltb}
use Rattle.count.specs.Rule.{Opening, exhausted, distance_of, forward_of, try_forward, forward_only}
use Rattle.count.specs.declared.Taken.TheVariants.{Late, Forward}
use Rattle.count.specs.declared.Missed.TheVariants.{NoCandidate, WrongCode}
use Rattle.count.specs.Run.{In}
use Rattle.count.proofs.Candidates.{never}
use Rattle.count.proofs.Openings.{answers}
use Rattle.algorithms.proofs.Laws.{code-length}
use Rattle.algorithms.specs.Codes.{is_built}
use Rattle.nas_core.specs.Refusals.{unbuilt, core_fault}
use Rattle.nas_core.specs.Keyed.{wraps, code_by}
use Rattle.initial.specs.Outer.{outer_length}
use Rattle.envelope.specs.Initial.{initial_envelope, beside}
use Rattle.envelope.proofs.Lengths.{initial-length}
use Rattle.nas_5gs.specs.declared.Context.{Context}
use Rattle.nas_core.specs.declared.Direction.{Direction}
use Rattle.nas_core.specs.declared.Direction.TheVariants.{Uplink}
use Rattle.nas_5gs.specs.declared.Connection.{Connection}
use Rattle.nas_core.specs.UseAnswer as use'
use Rattle.nas_5gs.specs.OpenAnswer as open'
use Rattle.nas_5gs.specs.EpsOpenAnswer as eps
use Rattle.nas_5gs.specs.Places.{direction_no, bearer_no, place_of, four, any_over, record_at, next_at, fault_of, used, used_late}
use Rattle.nas_5gs.specs.Leaves.{over, use_next, received, Values, refusal, use_values, open_values, eps_open_values, verify_values}
use Rattle.nas_5gs.specs.Changes.{refused_context, new_of, restore_of, reselect_of, window_of}
use Rattle.nas_5gs.specs.Envelope.{ciphers, envelope}
use Rattle.nas_5gs.specs.Seal.{seal_refusals, seal_refusal, opaque_refusals, opaque_refusal}
use Rattle.nas_5gs.specs.Initial.{initial_refusals, initial_refusal}
use Rattle.nas_5gs.proofs.Passed.{initial-whole, rooms}
use Rattle.nas_5gs.specs.Open.{type_of, open_refusals, open_refusal, room_for}
use Rattle.nas_5gs.specs.Eps.{eps_place, not_eps, eps_message, seal_eps_refusals, seal_eps_refusal, open_eps_refusals, open_eps_refusal, eps_handed, eps_opened}
use Rattle.nas_5gs.specs.Containers.{container_place, container_bearer, container_direction, s1_count, s1_value, s1_to_n1, s1_to_n1_refusals, s1_to_n1_refusal}
use Rattle.promises.specs.Calls.{Call, set_window, reselect, seal5gs, seal_opaque, seal_initial, open5gs, seal_eps, open_eps, make_n1_to_s1, verify_n1_to_s1, make_s1_to_n1, verify_s1_to_n1, Outcome, outcome, gives, lent, place_in}
use Rattle.promises.specs.Demand1.{numbers_of, Demand1, MayBeLate, Demand1Uses, HandsOver, Opened, plain5gs, Demand1Open, Built, Demand1Making, Demand1Changes}
use Rattle.promise.proofs.Told.{Told, fits-room, told-alone, told_over, told-received}
use Rattle.promises.proofs.Shapes.{holding, refusal_of, found, plain, look, inside, carried, opened_as, eps_found, eps_as, octet_found, octet_refused, octet_as, octet_used}
use Rattle.promises.proofs.Passing.{passes, alone, sends, gives-passed, gives-refused, uses-passed}
use Rattle.promises.proofs.Numbers.{Among, there, or_right, refusal-listed, refusal-not-8, look-listed, carried-listed, fault-first}
use Rattle.promises.proofs.Opening.{payload-length, eps-sealed}
use Rattle.promises.proofs.Seconds.{seconds, second-left, told-second}
use Rattle.promises.proofs.Taking.{Answering, left, open-answering, eps-answering, open-left, eps-left, envelope-long}

told-sends : (s : List ℕ) (x : Context) (out : List ℕ) (p : ℕ) (made : ℕ → List ℕ) → length (made (next_at x p)) ≤ length out → Told s x out (sends x p made out)
unfolding use_next
told-sends s x out p made fit =
    let c = next_at x p in
    told_over s x out (use_values (use'.Used c (length (made c)))) (used x p c) (made c) (inl refl) refl fit

-- a success, or 8
with-8 : (s : List ℕ) {n : ℕ} → In 8 s → (n ≡ 0) ⊎ (n ≡ 8) → (n ≡ 0) ⊎ ((n ≡ 8) × In 8 s)
with-8 s eight (inl e) = inl e
with-8 s eight (inr e) = inr (e, eight)

-- the N1-to-S1 container has no code, so none is wrong
never-wrong : (l : Option ℕ) → try_forward (λ c. true) l ≡ Err WrongCode → ⊥
never-wrong None e = let z : ◌≡◌ {A = ℕ} 0 1 = cc in omega arith
never-wrong (Some c) e = let z : ◌≡◌ {A = ℕ} 0 1 = cc in omega arith

octet-not-wrong : (x : Context) (n : ℕ) → octet_found x n ≡ Err WrongCode → ⊥
unfolding forward_only
octet-not-wrong x n = never-wrong (forward_of 8 (wraps x.core) (record_at x container_place) n)

told-octet : (s : List ℕ) (x : Context) (n : ℕ) (o : Opening) → In 6 s → (o ≡ Err WrongCode → ⊥)
    → Told s x [] (outcome verify_values (received x container_place (octet_refused x n) (octet_used x n) o))
told-octet s x n (Err NoCandidate) six not-wrong = told-alone s x [] 6 six
told-octet s x n (Err WrongCode) six not-wrong = absurd (not-wrong refl)
told-octet s x n (Ok (Late c)) six not-wrong = told_over s x [] (verify_values (octet_as x n c)) (used_late x container_place c) [] (inl refl) refl (omega arith)
told-octet s x n (Ok (Forward c)) six not-wrong = told_over s x [] (verify_values (octet_as x n c)) (used x container_place c) [] (inl refl) refl (omega arith)

pub s1-long : (x : Context) (ncc ngksi : ℕ) → length (s1_to_n1 x.core ncc ngksi) ≡ 8
unfolding s1_to_n1 code_by
s1-long x ncc ngksi =
    let n = code-length x.core.integrity x.core.integrity_key s1_count container_bearer container_direction (s1_value x.core ncc ngksi) in
    simp (length-append, n)

told-passes : (k : Call) (x : Context) → refusal_of k x ≡ 0 → Told (numbers_of k) x (lent k) (passes k x)
unfolding seal_refusal opaque_refusal initial_refusal open_refusal seal_eps_refusal open_eps_refusal s1_to_n1_refusal eps_opened eps_handed
told-passes (set_window n) x e = record { answers = inl refl; kept = λ a b. absurd (a refl); behind = refl; room = refl; within = omega arith }
told-passes (reselect i c ik ck) x e = record { answers = inl refl; kept = λ a b. absurd (a refl); behind = refl; room = refl; within = omega arith }
told-passes (seal5gs t d k inner out) x e =
    let p = place_of d k in
    let h : 7 + length inner ≤ length out = fits-room (seal_refusals x t p (direction_no d) inner (length out)) 6 (length out) (7 + length inner) e refl in
    told-sends (numbers_of (seal5gs t d k inner out)) x out p (λ c. envelope x.core t c (bearer_no k) (direction_no d) inner)
    (omega (arith, envelope-long x.core t (next_at x p) (bearer_no k) (direction_no d) inner))
told-passes (seal_opaque t d k inner out) x e =
    let p = place_of d k in
    let h : 7 + length inner ≤ length out = fits-room (opaque_refusals x t p inner (length out)) 3 (length out) (7 + length inner) e refl in
    told-sends (numbers_of (seal_opaque t d k inner out)) x out p (λ c. envelope x.core t c (bearer_no k) (direction_no d) inner)
    (omega (arith, envelope-long x.core t (next_at x p) (bearer_no k) (direction_no d) inner))
told-passes (seal_initial k w out) x e =
    let p = place_of Uplink k in
    let h : 7 + outer_length w ≤ length out = fits-room (initial_refusals x p w (length out)) 4 (length out) (7 + outer_length w) e refl in
    told-sends (numbers_of (seal_initial k w out)) x out p (λ c. initial_envelope x.core c (bearer_no k) w)
    (omega (arith, initial-length x.core (next_at x p) (bearer_no k) w (initial-whole x p w (length out) e)))
told-passes (open5gs d k m out out2) x e =
    let s = numbers_of (open5gs d k m out out2) in
    let room = room_for (type_of m) (direction_no d) (length out) (length out2) in
    let b = bearer_no k in
    let f = direction_no d in
    let p = place_of d k in
    let h : length m - 7 ≤ length out =
    (rooms (type_of m) f (length m - 7) (length out) (length out2) (fits-room (open_refusals x m room) 6 room (length m - 7) e refl)).0 in
    told-received s x out holding open_values open'.Refused (opened_as x p b f m out) (plain x p b f m out) (open-answering x p b f m out) p (found x p b f m out)
    (λ n. refl) (λ c. with-8 s (there 8 s refl) ((open-answering x p b f m out).number c)) (there 6 s refl) (there 7 s refl)
    (λ c. omega (arith, payload-length x.core c b f (drop 7 m) (ciphers (type_of m)), length-drop 7 m))
told-passes (seal_eps inner out) x e =
    let h : 6 + length inner ≤ length out = fits-room (seal_eps_refusals x inner (length out)) 3 (length out) (6 + length inner) e refl in
    told-sends (numbers_of (seal_eps inner out)) x out eps_place (λ c. eps_message x.core c inner)
    (omega (arith, (eps-sealed x.core (next_at x eps_place) inner).long))
told-passes (open_eps m out) x e =
    let s = numbers_of (open_eps m out) in
    let h : length m - 6 ≤ length out = fits-room (open_eps_refusals x m (length out)) 4 (length out) (length m - 6) e refl in
    told-received s x out holding eps_open_values eps.Refused (eps_as x m out) (λ c. drop 6 m) (eps-answering x m out) eps_place (eps_found x m out)
    (λ n. refl) (λ c. with-8 s (there 8 s refl) ((eps-answering x m out).number c)) (there 6 s refl) (there 7 s refl) (λ c. omega (arith, length-drop 6 m))
told-passes make_n1_to_s1 x e = record { answers = inl refl; kept = λ a b. absurd (a refl); behind = refl; room = refl; within = omega arith }
told-passes (verify_n1_to_s1 n) x e =
    let s = numbers_of (verify_n1_to_s1 n) in told-octet s x n (octet_found x n) (there 6 s refl) (octet-not-wrong x n)
told-passes (make_s1_to_n1 ncc ngksi out) x e =
    let h : 8 ≤ length out = fits-room (s1_to_n1_refusals x ncc ngksi (length out)) 2 (length out) 8 e refl in
    told-sends (numbers_of (make_s1_to_n1 ncc ngksi out)) x out container_place (λ c. s1_to_n1 x.core ncc ngksi) (omega (arith, s1-long x ncc ngksi))
told-passes (verify_s1_to_n1 v) x e = told-sends (numbers_of (verify_s1_to_n1 v)) x [] container_place (λ c. []) (omega arith)

told : (k : Call) (x : Context) → Told (numbers_of k) x (lent k) (gives k x)
told k x = go (eqb (refusal_of k x) 0) refl
  where
    go : (t : Bool) → eqb (refusal_of k x) 0 ≡ t → Told (numbers_of k) x (lent k) (gives k x)
    go true e = let z = eqb-true (refusal_of k x) 0 e in rw (gives-passed k x z) (told-passes k x z)
    go false e =
        let n = eqb-false (refusal_of k x) 0 e in
        rw (gives-refused k x n) (told-alone (numbers_of k) x (lent k) (refusal_of k x) (refusal-listed k x n))

fault-told : (k : Call) (x : Context) → (fault_of x ≡ 0 → ⊥) → (gives k x).values ≡ refusal (fault_of x)
fault-told k x f = let e = fault-first k x f in rw (gives-refused k x (λ z. f (sym e ∙ z))) (ap refusal e)

pub demand1 : (k : Call) (x : Context) → Demand1 k x
demand1 k x =
    let t = told k x in
    let s = seconds k x in
    record {
      answers = t.answers;
      kept = t.kept;
      behind = t.behind;
      room = t.room;
      within = t.within;
      behind-second = s.behind;
      room-second = s.room;
      within-second = s.within;
      untouched = s.untouched;
      fault = fault-told k x;
    }

-- what an open call hands over
module _ {A : Type 0} (v : A → Values) (no' yes' : ℕ → A) (plain_of_lem : ℕ → List ℕ) (a : Answering v no' yes' plain_of_lem) (alike : (n : ℕ) → v (no' n) ≡ refusal n)
    (x : Context) (p : ℕ) (out : List ℕ) where
  not_opened : {B : Type 0} (n : ℕ) → (n ≡ 0 → ⊥) → (n ≡ 8 → ⊥) → ((v (no' n)).number ≡ 0) ⊎ ((v (no' n)).number ≡ 8) → B
  not_opened n f g (inl e) = absurd (f (sym (ap (λ (w : Values). w.number) (alike n)) ∙ e))
  not_opened n f g (inr e) = absurd (g (sym (ap (λ (w : Values). w.number) (alike n)) ∙ e))

  used-is : (c : ℕ) → HandsOver x p plain_of_lem out (record { values = v (yes' c); context = used x p c; output = over (plain_of_lem c) out })
  used-is c = record { uses = a.uses c; context = inl (rw (a.count c)); wrote = rw (a.count c) (a.wrote c); output = rw (a.count c) }

  late_is : (c : ℕ) → HandsOver x p plain_of_lem out (record { values = v (yes' c); context = used_late x p c; output = over (plain_of_lem c) out })
  late_is c = record { uses = a.uses c; context = inr (rw (a.count c)); wrote = rw (a.count c) (a.wrote c); output = rw (a.count c) }

  hands : (o : Opening) → Opened (left v no' yes' plain_of_lem a x p out o) → HandsOver x p plain_of_lem out (left v no' yes' plain_of_lem a x p out o)
  hands (Err NoCandidate) h = not_opened 6 (λ e. omega arith) (λ e. omega arith) h
  hands (Err WrongCode) h = not_opened 7 (λ e. omega arith) (λ e. omega arith) h
  hands (Ok (Late c)) h = late_is c
  hands (Ok (Forward c)) h = used-is c

-- an outcome of 0 or 8 was not refused before
pub opened-passed : (k : Call) (x : Context) → Opened (gives k x) → refusal_of k x ≡ 0
opened-passed k x h = go (eqb (refusal_of k x) 0) refl
  where
    clash : (refusal_of k x ≡ 0 → ⊥) → Opened (alone (refusal_of k x) x (lent k)) → ⊥
    clash n (inl e) = n e
    clash n (inr e) = refusal-not-8 k x n e

    go : (t : Bool) → eqb (refusal_of k x) 0 ≡ t → refusal_of k x ≡ 0
    go true e = eqb-true (refusal_of k x) 0 e
    go false e =
        let n = eqb-false (refusal_of k x) 0 e in absurd (clash n (subst Opened (gives-refused k x n) h))

-- the COUNT answered is the one used
module _ (x : Context) where
  abbrev UsedAs : ℕ → Type 0 → Outcome → Type 0
  UsedAs p L o =
      o.values.uses ≡ true → (o.context ≡ used x p o.values.count) ⊎ (L × (o.context ≡ used_late x p o.values.count))

  sent-uses : (p : ℕ) (L : Type 0) (made : ℕ → List ℕ) (out : List ℕ) → UsedAs p L (sends x p made out)
  unfolding use_next
  sent-uses p L made out u = inl refl

  received-uses : {A : Type 0} (v : A → Values) (no' yes' : ℕ → A) (plain_of_lem : ℕ → List ℕ) (a : Answering v no' yes' plain_of_lem) (p : ℕ) (out : List ℕ) (o : Opening)
      → UsedAs p (Unit {0}) (left v no' yes' plain_of_lem a x p out o)
  received-uses v no' yes' plain_of_lem a p out (Err NoCandidate) u = let z : ◌≡◌ {A = ℕ} 0 1 = cc (a.refuses 6) in absurd (omega arith)
  received-uses v no' yes' plain_of_lem a p out (Err WrongCode) u = let z : ◌≡◌ {A = ℕ} 0 1 = cc (a.refuses 7) in absurd (omega arith)
  received-uses v no' yes' plain_of_lem a p out (Ok (Late c)) u = inr (tt, rw (a.count c))
  received-uses v no' yes' plain_of_lem a p out (Ok (Forward c)) u = inl (rw (a.count c))

  octet-uses : (n : ℕ) (o : Opening) → ((c : ℕ) → o ≡ Ok (Late c) → ⊥)
      → UsedAs container_place ⊥ (outcome verify_values (received x container_place (octet_refused x n) (octet_used x n) o))
  octet-uses n (Err NoCandidate) never u = let z : ◌≡◌ {A = ℕ} 0 1 = cc in absurd (omega arith)
  octet-uses n (Err WrongCode) never u = let z : ◌≡◌ {A = ℕ} 0 1 = cc in absurd (omega arith)
  octet-uses n (Ok (Late c)) never u = absurd (never c refl)
  octet-uses n (Ok (Forward c)) never u = inl refl

  pub octet-never-late : (n c : ℕ) → octet_found x n ≡ Ok (Late c) → ⊥
  unfolding forward_only
  octet-never-late n c e = never ((answers (λ c'. true) None (forward_of 8 (wraps x.core) (record_at x container_place) n) (Ok (Late c))).0 e).0

  passes-uses : (k : Call) → UsedAs (place_in k) (MayBeLate k) (passes k x)
  unfolding eps_opened eps_handed
  passes-uses (set_window n) u = let z : ◌≡◌ {A = ℕ} 0 1 = cc in absurd (omega arith)
  passes-uses (reselect i c ik ck) u = let z : ◌≡◌ {A = ℕ} 0 1 = cc in absurd (omega arith)
  passes-uses (seal5gs t d k inner out) u = sent-uses (place_of d k) ⊥ (λ c. envelope x.core t c (bearer_no k) (direction_no d) inner) out u
  passes-uses (seal_opaque t d k inner out) u = sent-uses (place_of d k) ⊥ (λ c. envelope x.core t c (bearer_no k) (direction_no d) inner) out u
  passes-uses (seal_initial k w out) u = sent-uses (place_of Uplink k) ⊥ (λ c. initial_envelope x.core c (bearer_no k) w) out u
  passes-uses (open5gs d k m out out2) u =
      let b = bearer_no k in let f = direction_no d in let p = place_of d k in
      received-uses open_values open'.Refused (opened_as x p b f m out) (plain x p b f m out) (open-answering x p b f m out) p out (found x p b f m out) u
  passes-uses (seal_eps inner out) u = sent-uses eps_place ⊥ (λ c. eps_message x.core c inner) out u
  passes-uses (open_eps m out) u =
      received-uses eps_open_values eps.Refused (eps_as x m out) (λ c. drop 6 m) (eps-answering x m out) eps_place out (eps_found x m out) u
  passes-uses make_n1_to_s1 u = inl refl
  passes-uses (verify_n1_to_s1 n) u = octet-uses n (octet_found x n) (octet-never-late n) u
  passes-uses (make_s1_to_n1 ncc ngksi out) u = sent-uses container_place ⊥ (λ c. s1_to_n1 x.core ncc ngksi) out u
  passes-uses (verify_s1_to_n1 v) u = sent-uses container_place ⊥ (λ c. []) [] u

  pub demand1-uses : (k : Call) → Demand1Uses k x
  demand1-uses k u =
      let e = gives-passed k x (uses-passed k x u) in
      subst (UsedAs (place_in k) (MayBeLate k)) (sym e) (passes-uses k) u

-- what a 5GS open tells beside
module _ (x : Context) (p b d : ℕ) (m out : List ℕ) where
  abbrev values_as : ℕ → Values
  values_as c = open_values (opened_as x p b d m out c)

  abbrev open_left : Opening → Outcome
  open_left o = left open_values open'.Refused (opened_as x p b d m out) (plain x p b d m out) (open-answering x p b d m out) x p out o

  tells_as : (c : ℕ) → ((values_as c).header ≡ type_of m) × ((values_as c).carried ≡ carried x p b d m out c)
  tells_as c = go (eqb (carried x p b d m out c) 0) refl
    where
      go : (t : Bool) → eqb (carried x p b d m out c) 0 ≡ t
          → let w = open_values (
          cond t (open'.Accepted c (distance_of (record_at x p) c) (length (plain x p b d m out c)) (type_of m) (length (beside (inside x p b d m out c))))
          (open'.Content c (distance_of (record_at x p) c) (length (plain x p b d m out c)) (type_of m) (carried x p b d m out c))) in
          (w.header ≡ type_of m) × (w.carried ≡ carried x p b d m out c)
      go true e = (refl, sym (eqb-true (carried x p b d m out c) 0 e))
      go false e = (refl, refl)

  content-as : (c : ℕ) → (values_as c).number ≡ 8 → In (values_as c).carried (9 ∷ 10 ∷ 11 ∷ 18 ∷ [])
  content-as c = go (eqb (carried x p b d m out c) 0) refl
    where
      listed : (eqb (carried x p b d m out c) 0 ≡ false) → Among (9 ∷ 10 ∷ 11 ∷ 18 ∷ []) (carried x p b d m out c) → In (carried x p b d m out c) (9 ∷ 10 ∷ 11 ∷ 18 ∷ [])
      listed e (inl z) = absurd (eqb-false (carried x p b d m out c) 0 e z)
      listed e (inr h) = h

      go : (t : Bool) → eqb (carried x p b d m out c) 0 ≡ t
          → let w = open_values (
          cond t (open'.Accepted c (distance_of (record_at x p) c) (length (plain x p b d m out c)) (type_of m) (length (beside (inside x p b d m out c))))
          (open'.Content c (distance_of (record_at x p) c) (length (plain x p b d m out c)) (type_of m) (carried x p b d m out c))) in
          w.number ≡ 8 → In w.carried (9 ∷ 10 ∷ 11 ∷ 18 ∷ [])
      go true e h = absurd (omega arith)
      go false e h = listed e (carried-listed (look x p b d m out c) (inside x p b d m out c) (look-listed (type_of m) d (plain x p b d m out c)))

  -- a success carries none
  success-as : (c : ℕ) → (values_as c).number ≡ 0 → (values_as c).carried ≡ 0
  success-as c = go (eqb (carried x p b d m out c) 0)
    where
      go : (t : Bool)
          → let w = open_values (
          cond t (open'.Accepted c (distance_of (record_at x p) c) (length (plain x p b d m out c)) (type_of m) (length (beside (inside x p b d m out c))))
          (open'.Content c (distance_of (record_at x p) c) (length (plain x p b d m out c)) (type_of m) (carried x p b d m out c))) in
          w.number ≡ 0 → w.carried ≡ 0
      go true h = refl
      go false h = absurd (omega arith)

  tells-left : (o : Opening) → Opened (open_left o)
      → ((open_left o).values.header ≡ type_of m) × ((open_left o).values.carried ≡ carried x p b d m out (open_left o).values.count)
  tells-left (Err NoCandidate) (inl h) = absurd (omega arith)
  tells-left (Err NoCandidate) (inr h) = absurd (omega arith)
  tells-left (Err WrongCode) (inl h) = absurd (omega arith)
  tells-left (Err WrongCode) (inr h) = absurd (omega arith)
  tells-left (Ok (Late c)) h = rw ((open-answering x p b d m out).count c) (tells_as c)
  tells-left (Ok (Forward c)) h = rw ((open-answering x p b d m out).count c) (tells_as c)

  carries-left : (o : Opening) → (open_left o).values.number ≡ 8 → In (open_left o).values.carried (9 ∷ 10 ∷ 11 ∷ 18 ∷ [])
  carries-left (Err NoCandidate) h = absurd (omega arith)
  carries-left (Err WrongCode) h = absurd (omega arith)
  carries-left (Ok (Late c)) h = content-as c h
  carries-left (Ok (Forward c)) h = content-as c h

  success-left : (o : Opening) → (open_left o).values.number ≡ 0 → (open_left o).values.carried ≡ 0
  success-left (Err NoCandidate) h = refl
  success-left (Err WrongCode) h = refl
  success-left (Ok (Late c)) h = success-as c h
  success-left (Ok (Forward c)) h = success-as c h

eps-carries : (x : Context) (m out : List ℕ) (o : Opening)
    → let w = (left eps_open_values eps.Refused (eps_as x m out) (λ c. drop 6 m) (eps-answering x m out) x eps_place out o).values in w.number ≡ 8 → w.carried ≡ 12
eps-carries x m out (Err NoCandidate) h = absurd (omega arith)
eps-carries x m out (Err WrongCode) h = absurd (omega arith)
eps-carries x m out (Ok (Late c)) h = go (not_eps (drop 6 m)) h
  where
    go : (t : Bool) → let w = eps_open_values (cond t (eps.Content c (distance_of (record_at x eps_place) c) (length (drop 6 m)) 12) (eps.Accepted c (distance_of (record_at x eps_place) c) (length (drop 6 m)))) in w.number ≡ 8 → w.carried ≡ 12
    go true e = refl
    go false e = absurd (omega arith)
eps-carries x m out (Ok (Forward c)) h = go (not_eps (drop 6 m)) h
  where
    go : (t : Bool) → let w = eps_open_values (cond t (eps.Content c (distance_of (record_at x eps_place) c) (length (drop 6 m)) 12) (eps.Accepted c (distance_of (record_at x eps_place) c) (length (drop 6 m)))) in w.number ≡ 8 → w.carried ≡ 12
    go true e = refl
    go false e = absurd (omega arith)

module _ (x : Context) where
  opens-5gs : (d : Direction) (k : Connection) (m out out2 : List ℕ)
      → let o = gives (open5gs d k m out out2) x in Opened o → HandsOver x (place_of d k) (plain5gs x d k m) out o
  opens-5gs d k m out out2 h =
      let b = bearer_no k in let f = direction_no d in let p = place_of d k in
      let e = open-left x d k m out out2 (opened-passed (open5gs d k m out out2) x h) in
      rw e (hands open_values open'.Refused (opened_as x p b f m out) (plain x p b f m out) (open-answering x p b f m out) (λ n. refl) x p out (found x p b f m out)
      (subst Opened e h))

  -- a success carries none
  pub carries-none : (d : Direction) (k : Connection) (m out out2 : List ℕ)
      → let o = gives (open5gs d k m out out2) x in o.values.number ≡ 0 → o.values.carried ≡ 0
  carries-none d k m out out2 h =
      let b = bearer_no k in let f = direction_no d in let p = place_of d k in
      let e = open-left x d k m out out2 (opened-passed (open5gs d k m out out2) x (inl h)) in
      rw e (success-left x p b f m out (found x p b f m out) (rw e at h))

  pub demand1-open : Demand1Open x
  demand1-open =
      record {
        opens = opens-5gs;
        tells = λ d k m out out2 h.
            let b = bearer_no k in let f = direction_no d in let p = place_of d k in
            let e = open-left x d k m out out2 (opened-passed (open5gs d k m out out2) x h) in
            rw e (tells-left x p b f m out (found x p b f m out) (subst Opened e h));
        wrote = λ d k m out out2 h.
            let b = bearer_no k in let f = direction_no d in
            let c = (gives (open5gs d k m out out2) x).values.count in
            (opens-5gs d k m out out2 h).wrote ∙ payload-length x.core c b f (drop 7 m) (ciphers (type_of m)) ∙ length-drop 7 m;
        carries = λ d k m out out2 h.
            let b = bearer_no k in let f = direction_no d in let p = place_of d k in
            let e = open-left x d k m out out2 (opened-passed (open5gs d k m out out2) x (inr h)) in
            rw e (carries-left x p b f m out (found x p b f m out) (rw e at h));
        inside = λ d k m out out2 h.
            let b = bearer_no k in let f = direction_no d in let p = place_of d k in
            let e = opened-passed (open5gs d k m out out2) x h in
            let u = (opens-5gs d k m out out2 h).uses in
            rw (open-left x d k m out out2 e, second-left x d k m out out2 e)
            (told-second x p b f m out out2 (found x p b f m out) (rw (open-left x d k m out out2 e) at u));
        opens-eps = λ m out h.
            let e = eps-left x m out (opened-passed (open_eps m out) x h) in
            rw e (hands eps_open_values eps.Refused (eps_as x m out) (λ c. drop 6 m) (eps-answering x m out) (λ n. refl) x eps_place out (eps_found x m out) (subst Opened e h));
        carries-eps = λ m out h.
            let e = eps-left x m out (opened-passed (open_eps m out) x (inr h)) in
            rw e (eps-carries x m out (eps_found x m out) (rw e at h));
      }

-- creation and restore
refused-fault : fault_of refused_context ≡ 13
unfolding fault_of core_fault unbuilt is_built
refused-fault = refl

-- a test of the codes
not-both : (i c : ℕ) → (Built i c → ⊥) → unbuilt i c ≡ true
unfolding unbuilt
not-both i c h = go (is_built i) (is_built c) refl refl
  where
    go : (a b : Bool) → is_built i ≡ a → is_built c ≡ b → not a || not b ≡ true
    go true true p q = absurd (h (p, q))
    go true false p q = refl
    go false b p q = refl

pub both : (i c : ℕ) → Built i c → unbuilt i c ≡ false
unfolding unbuilt
both i c h = simp (h.0, h.1)

-- four next COUNTs, all within bounds or one over them
none_over : (next : List ℕ) → ((p : ℕ) → p < 4 → get_or next p 0 ≤ exhausted) → any_over (four (λ p. get_or next p 0)) ≡ false
none_over next h =
    simp (
      le-ltb exhausted (get_or next 0 0) (h 0 (omega arith)),
      le-ltb exhausted (get_or next 1 0) (h 1 (omega arith)),
      le-ltb exhausted (get_or next 2 0) (h 2 (omega arith)),
      le-ltb exhausted (get_or next 3 0) (h 3 (omega arith)),
    )

over-somewhere : (l : List ℕ) (p : ℕ) → exhausted < get_or l p 0 → any_over l ≡ true
over-somewhere [] p h = absurd (omega arith)
over-somewhere (n ∷ l) zero h = simp (lt-ltb exhausted n h)
over-somewhere (n ∷ l) (suc p) h = or_right (ltb exhausted n) (any_over l) (over-somewhere l p h)

four-at : (next : List ℕ) (p : ℕ) → p < 4 → get_or (four (λ q. get_or next q 0)) p 0 ≡ get_or next p 0
four-at next zero h = refl
four-at next (suc zero) h = refl
four-at next (suc (suc zero)) h = refl
four-at next (suc (suc (suc zero))) h = refl
four-at next (suc (suc (suc (suc p)))) h = absurd (omega arith)

pub demand1-making : Demand1Making
unfolding new_of restore_of
demand1-making =
    record {
      created = λ i c ik ck h. rw (both i c h);
      not-created = λ i c ik ck h. rw (not-both i c h);
      restored = λ i c ik ck next h low. rw (both i c h, none_over next low);
      not-restored = λ i c ik ck next h. rw (not-both i c h);
      over-restored = λ i c ik ck next p h low high.
          rw (both i c h, over-somewhere (four (λ q. get_or next q 0)) p (subst (λ (n : ℕ). exhausted < n) (sym (four-at next p low)) high));
      refuses = λ k.
          let e = refused-fault in
          fault-told k refused_context (λ z. omega arith) ∙ ap refusal e;
    }

pub demand1-changes : (x : Context) (faultless : fault_of x ≡ 0) → Demand1Changes x faultless
unfolding reselect_of window_of
demand1-changes x faultless =
    record {
      reselected = λ i c ik ck h. rw (faultless, both i c h);
      not-reselected = λ i c ik ck h. rw (faultless, not-both i c h);
      sized = λ n h. rw (faultless, le-ltb 64 n h);
      not-sized = λ n h. rw (faultless, lt-ltb 64 n h);
    }
