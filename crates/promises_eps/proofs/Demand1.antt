-- Demand 1.
use Rattle.std.specs.Prelude.{None, Ok, Err}
use Prim.Native.Nat.{ℕ, ◌+◌, ◌-◌, ◌≤◌, ◌<◌, ◌/◌, ◌%◌}
use mathlib.Core.Path.{◌≡◌, refl, sym, ap, ◌∙◌, subst}
use mathlib.Core.Bool.{Bool, true, false, cond, not, ◌||◌}
use mathlib.Core.Logic.{◌⊎◌, inl, inr}
use mathlib.Core.List.{List, [], ◌∷◌}
use native.Mathlib.Omega.{arith}
use lib.ListN.{length, drop, length-drop}
use lib.Dec.{eqb, ltb}
use borrow.Author.Tests.{eqb-true, eqb-false, lt-ltb, le-ltb, ne_eqb}
use Rattle.count.specs.Rule.{Opening, exhausted, forward_of, forward_only}
use Rattle.count.specs.declared.Taken.TheVariants.{Late, Forward}
use Rattle.count.specs.declared.Missed.TheVariants.{NoCandidate, WrongCode}
use Rattle.count.specs.Run.{In}
use Rattle.count.proofs.Candidates.{never}
use Rattle.count.proofs.Openings.{answers}
use Rattle.algorithms.specs.Codes.{is_built}
use Rattle.nas_core.specs.Types.{wrong_type, ciphers}
use Rattle.nas_core.specs.Keyed.{wraps}
use Rattle.nas_core.specs.Refusals.{unbuilt, any_over, core_fault}
use Rattle.nas_core.proofs.Keys.{payload-length}
use Rattle.nas_eps.specs.declared.Context.{Context}
use Rattle.nas_core.specs.declared.Direction.{Direction}
use Rattle.nas_core.specs.declared.Direction.TheVariants.{Downlink}
use Rattle.nas_core.specs.UseAnswer as use'
use Rattle.nas_eps.specs.OpenAnswer as open'
use Rattle.nas_eps.specs.Places.{uplink, downlink, place_of, record_at, next_at, fault_of, used, used_late}
use Rattle.nas_eps.specs.Leaves.{over, use_next, refusal, use_values, open_values}
use Rattle.nas_eps.specs.Changes.{refused_context, new_of, restore_of, reselect_of, window_of}
use Rattle.nas_eps.specs.Octets.{bearer, message, type_of, is_request, service_request, identifier_of, short_fits, request_as}
use Rattle.nas_eps.specs.Seal.{seal_refusals, seal_refusal, request_refusals, request_refusal}
use Rattle.nas_eps.specs.Open.{form_refusal, open_refusal}
use Rattle.nas_eps.proofs.Lengths.{message-length, request-length}
use Rattle.nas_eps.proofs.Passed.{open-passed}
use Rattle.promise.proofs.Numbers.{there, not_there, or_right}
use Rattle.promise.proofs.Told.{Told, fits-room, told-alone, told_over, told-received}
use Rattle.promises_eps.specs.Calls.{Call, set_window, reselect, seal_message, seal_request, open_message, Outcome, gives, lent, place_in}
use Rattle.promises_eps.specs.Words.{Succeeds, AnswersRequest}
use Rattle.promises_eps.specs.Demand1.{numbers_of, Demand1, MayBeLate, Demand1Uses, Demand1Open, Demand1Forms, Built, Demand1Making, Demand1Changes}
use Rattle.promises_eps.proofs.Shapes.{holding, refusal_of, found, payload_of, plain, answer_as, opened_as}
use Rattle.promises_eps.proofs.Passing.{passes, sends, gives-passed, gives-refused, uses-passed, succeeds-passed}
use Rattle.promises_eps.proofs.Numbers.{never-8, refusal-listed, fault-first}
use Rattle.promises_eps.proofs.Taking.{success-as, answering, left_by, request-answered}

told-sends : (s : List ℕ) (x : Context) (out : List ℕ) (p : ℕ) (made : ℕ → List ℕ) → length (made (next_at x p)) ≤ length out → Told s x out (sends x p made out)
unfolding use_next
told-sends s x out p made fit =
    let c = next_at x p in
    told_over s x out (use_values (use'.Used c (length (made c)))) (used x p c) (made c) (inl refl) refl fit

-- what is handed over fits the room
plain_fits : (x : Context) (p : ℕ) (m : List ℕ) (room : ℕ) → open_refusal x p m room ≡ 0 → (c : ℕ) (t : Bool) → is_request m ≡ t
    → length (cond t [] (payload_of x p m c)) ≤ room
plain_fits x p m room e c true q = omega arith
plain_fits x p m room e c false q =
    let h = (open-passed x p m room e).room q in
    omega (arith, payload-length x.core c bearer p (drop 6 m) (ciphers (type_of m)), length-drop 6 m)

told-passes : (k : Call) (x : Context) → refusal_of k x ≡ 0 → Told (numbers_of k) x (lent k) (passes k x)
unfolding seal_refusal request_refusal
told-passes (set_window n) x e = record { answers = inl refl; kept = λ a b. absurd (a refl); behind = refl; room = refl; within = omega arith }
told-passes (reselect i c ik ck) x e = record { answers = inl refl; kept = λ a b. absurd (a refl); behind = refl; room = refl; within = omega arith }
told-passes (seal_message t d inner out) x e =
    let p = place_of d in
    let h : 6 + length inner ≤ length out = fits-room (seal_refusals x t p inner (length out)) 3 (length out) (6 + length inner) e refl in
    told-sends (numbers_of (seal_message t d inner out)) x out p (λ c. message x.core t c p inner) (omega (arith, message-length x.core t (next_at x p) p inner))
told-passes (seal_request i out) x e =
    let h : 4 ≤ length out = fits-room (request_refusals x i (length out)) 2 (length out) 4 e refl in
    told-sends (numbers_of (seal_request i out)) x out uplink (λ c. service_request x.core i c) (omega (arith, request-length x.core i (next_at x uplink)))
told-passes (open_message d m out) x e =
    let s = numbers_of (open_message d m out) in
    let p = place_of d in
    told-received s x out holding open_values open'.Refused (opened_as x p m) (plain x p m) (answering x p m) p (found x p m)
    (λ n. refl) (λ c. inl (success-as x p m c (is_request m))) (there 6 s refl) (there 7 s refl) (λ c. plain_fits x p m (length out) e c (is_request m) refl)

told : (k : Call) (x : Context) → Told (numbers_of k) x (lent k) (gives k x)
told k x = go (eqb (refusal_of k x) 0) refl
  where
    go : (t : Bool) → eqb (refusal_of k x) 0 ≡ t → Told (numbers_of k) x (lent k) (gives k x)
    go true e = let z = eqb-true (refusal_of k x) 0 e in rw (gives-passed k x z) (told-passes k x z)
    go false e =
        let n = eqb-false (refusal_of k x) 0 e in
        rw (gives-refused k x n) (told-alone (numbers_of k) x (lent k) (refusal_of k x) (refusal-listed k x n))

fault-told : (k : Call) (x : Context) → (fault_of x ≡ 0 → ⊥) → (gives k x).values ≡ refusal (fault_of x)
fault-told k x f = let e = fault-first k x f in rw (gives-refused k x (λ z. f (sym e ∙ z))) (ap refusal e)

pub demand1 : (k : Call) (x : Context) → Demand1 k x
demand1 k x =
    let t = told k x in
    record {
      answers = t.answers;
      kept = λ n.
          t.kept n (λ e.
          elim t.answers [
            | inl z ↦ n z
            | inr h ↦ not_there 8 (numbers_of k) (never-8 k) (subst (λ (j : ℕ). In j (numbers_of k)) e h)
          ]);
      behind = t.behind;
      room = t.room;
      within = t.within;
      fault = fault-told k x;
    }

-- the COUNT answered is the one used
module _ (x : Context) where
  abbrev UsedAs : ℕ → Type 0 → Outcome → Type 0
  UsedAs p L o =
      o.values.uses ≡ true → (o.context ≡ used x p o.values.count) ⊎ (L × (o.context ≡ used_late x p o.values.count))

  sent-uses : (p : ℕ) (made : ℕ → List ℕ) (out : List ℕ) → UsedAs p ⊥ (sends x p made out)
  unfolding use_next
  sent-uses p made out u = inl refl

  opened-uses : (p : ℕ) (m out : List ℕ) (L : Type 0) (o : Opening) → ((c : ℕ) → o ≡ Ok (Late c) → L) → UsedAs p L (left_by x p m out o)
  opened-uses p m out L (Err NoCandidate) late u = let z : ◌≡◌ {A = ℕ} 0 1 = cc in absurd (omega arith)
  opened-uses p m out L (Err WrongCode) late u = let z : ◌≡◌ {A = ℕ} 0 1 = cc in absurd (omega arith)
  opened-uses p m out L (Ok (Late c)) late u = inr (late c refl, rw ((answering x p m).count c))
  opened-uses p m out L (Ok (Forward c)) late u = inl (rw ((answering x p m).count c))

  -- a SERVICE REQUEST is never found late
  pub request-never-late : (p : ℕ) (m : List ℕ) (c : ℕ) → request_as x.core (record_at x p) m ≡ Ok (Late c) → ⊥
  unfolding request_as forward_only
  request-never-late p m c e = never ((answers (λ c'. short_fits x.core c' m) None (forward_of 5 (wraps x.core) (record_at x p) _) (Ok (Late c))).0 e).0

  late-message : (p : ℕ) (m : List ℕ) (c : ℕ) → found x p m ≡ Ok (Late c) → is_request m ≡ false
  late-message p m c e = go (is_request m) refl
    where
      go : (t : Bool) → is_request m ≡ t → is_request m ≡ false
      go true q = absurd (request-never-late p m c (rw q at e))
      go false q = q

  passes-uses : (k : Call) → UsedAs (place_in k) (MayBeLate k) (passes k x)
  passes-uses (set_window n) u = let z : ◌≡◌ {A = ℕ} 0 1 = cc in absurd (omega arith)
  passes-uses (reselect i c ik ck) u = let z : ◌≡◌ {A = ℕ} 0 1 = cc in absurd (omega arith)
  passes-uses (seal_message t d inner out) u = sent-uses (place_of d) (λ c. message x.core t c (place_of d) inner) out u
  passes-uses (seal_request i out) u = sent-uses uplink (λ c. service_request x.core i c) out u
  passes-uses (open_message d m out) u =
      opened-uses (place_of d) m out (is_request m ≡ false) (found x (place_of d) m) (λ c e. late-message (place_of d) m c e) u

  pub demand1-uses : (k : Call) → Demand1Uses k x
  demand1-uses k u =
      let e = gives-passed k x (uses-passed k x u) in
      subst (UsedAs (place_in k) (MayBeLate k)) (sym e) (passes-uses k) u

-- what an open answers and writes
record Answered (x : Context) (p : ℕ) (m out : List ℕ) (o : Outcome) : Type 0 where
  uses : o.values.uses ≡ true
  header : o.values.header ≡ type_of m
  wrote : is_request m ≡ false → o.values.wrote ≡ length m - 6
  hands : is_request m ≡ false → o.output ≡ over (payload_of x p m o.values.count) out

module _ (x : Context) (p : ℕ) (m out : List ℕ) where
  header-as : (c : ℕ) (t : Bool) → is_request m ≡ t → (open_values (answer_as x p m t c)).header ≡ type_of m
  header-as c true q = sym (eqb-true (type_of m) 12 q)
  header-as c false q = refl

  used-as : (y : Context) (c : ℕ) → Answered x p m out (record { values = open_values (opened_as x p m c); context = y; output = over (plain x p m c) out })
  used-as y c =
      record {
        uses = (answering x p m).uses c;
        header = header-as c (is_request m) refl;
        wrote = λ e. rw e (payload-length x.core c bearer p (drop 6 m) (ciphers (type_of m)) ∙ length-drop 6 m);
        hands = λ e. rw e refl;
      }

  answered : (o : Opening) → (left_by x p m out o).values.number ≡ 0 → Answered x p m out (left_by x p m out o)
  answered (Err NoCandidate) h = absurd (omega arith)
  answered (Err WrongCode) h = absurd (omega arith)
  answered (Ok (Late c)) h = used-as (used_late x p c) c
  answered (Ok (Forward c)) h = used-as (used x p c) c

  -- a SERVICE REQUEST answered with the COUNT that it names
  request-as : is_request m ≡ true → (o : Opening) → let w = left_by x p m out o in
      w.values.number ≡ 0 → AnswersRequest w w.values.count (identifier_of m) out
  request-as is (Err NoCandidate) h = absurd (omega arith)
  request-as is (Err WrongCode) h = absurd (omega arith)
  request-as is (Ok (Late c)) h = rw ((answering x p m).count c) (request-answered x p m is out c (Ok (Late c)) (inl refl))
  request-as is (Ok (Forward c)) h = rw ((answering x p m).count c) (request-answered x p m is out c (Ok (Forward c)) (inr refl))

pub demand1-open : (x : Context) (d : Direction) (m out : List ℕ) (h : Succeeds (gives (open_message d m out) x)) → Demand1Open x d m out h
demand1-open x d m out h =
    let p = place_of d in
    let k = open_message d m out in
    let e : gives k x ≡ left_by x p m out (found x p m) = gives-passed k x (succeeds-passed k x h) in
    let h' = subst (λ (o : Outcome). o.values.number ≡ 0) e h in
    let a = subst (Answered x p m out) (sym e) (answered x p m out (found x p m) h') in
    record {
      uses = a.uses;
      header = a.header;
      wrote = a.wrote;
      hands = a.hands;
      request = λ is.
          subst (λ (o : Outcome). AnswersRequest o o.values.count (identifier_of m) out) (sym e)
          (request-as x p m out is (found x p m) h');
    }

-- octets that are refused for what they are
module _ (x : Context) (faultless : fault_of x ≡ 0) where
  form-told : (d : Direction) (m out : List ℕ) (n : ℕ) → (n ≡ 0 → ⊥) → form_refusal m ≡ n → (gives (open_message d m out) x).values ≡ refusal n
  unfolding open_refusal
  form-told d m out n some e =
      let q : refusal_of (open_message d m out) x ≡ n = simp (faultless, e, ne_eqb n 0 some) in
      rw (gives-refused (open_message d m out) x (λ z. some (sym q ∙ z))) (ap refusal q)

  not-empty : (a : ℕ) (m : List ℕ) → eqb (length (a ∷ m)) 0 ≡ false
  not-empty a m = ne_eqb (length (a ∷ m)) 0 (λ e. omega arith)

  first-told : (a : ℕ) (m : List ℕ) → eqb (a % 16) 7 ≡ true → wrong_type (a / 16) ≡ true → eqb (a / 16) 12 ≡ false → form_refusal (a ∷ m) ≡ 3
  unfolding form_refusal
  first-told a m seven wrong other = simp (not-empty a m, seven, wrong, other)

  low_told : (a : ℕ) (m : List ℕ) → eqb (a % 16) 7 ≡ false → form_refusal (a ∷ m) ≡ 2
  unfolding form_refusal
  low_told a m low = simp (not-empty a m, low)

  long-told : (a b c e : ℕ) (m : List ℕ) → form_refusal (0xC7 ∷ a ∷ b ∷ c ∷ e ∷ m) ≡ 1
  unfolding form_refusal wrong_type
  long-told a b c e m = simp (not-empty 0xC7 (a ∷ b ∷ c ∷ e ∷ m), ne_eqb (length (0xC7 ∷ a ∷ b ∷ c ∷ e ∷ m)) 4 (λ q. omega arith))

  down-told : (a b c : ℕ) (out : List ℕ) → open_refusal x downlink (0xC7 ∷ a ∷ b ∷ c ∷ []) (length out) ≡ 11
  unfolding open_refusal form_refusal wrong_type
  down-told a b c out = simp faultless

  pub demand1-forms : Demand1Forms x faultless
  unfolding form_refusal wrong_type
  demand1-forms =
      record {
        none = λ d out. form-told d [] out 1 (λ z. omega arith) refl;
        five-gs = λ d m out. form-told d (0x7E ∷ m) out 2 (λ z. omega arith) (low_told 0x7E m refl);
        plain = λ d m out. form-told d (0x07 ∷ m) out 3 (λ z. omega arith) (first-told 0x07 m refl refl refl);
        control-plane = λ d m out. form-told d (0x57 ∷ m) out 3 (λ z. omega arith) (first-told 0x57 m refl refl refl);
        other-request = λ d m out. form-told d (0xD7 ∷ m) out 3 (λ z. omega arith) (first-told 0xD7 m refl refl refl);
        short = λ d a b out. form-told d (0xC7 ∷ a ∷ b ∷ []) out 1 (λ z. omega arith) refl;
        long = λ d a b c e m out. form-told d (0xC7 ∷ a ∷ b ∷ c ∷ e ∷ m) out 1 (λ z. omega arith) (long-told a b c e m);
        down = λ a b c out.
            let q = down-told a b c out in
            rw (gives-refused (open_message Downlink (0xC7 ∷ a ∷ b ∷ c ∷ []) out) x (λ z. omega arith)) (ap refusal q);
      }

-- creation and restore
refused-fault : fault_of refused_context ≡ 13
unfolding fault_of core_fault unbuilt is_built
refused-fault = refl

-- a test of the codes
not-both : (i c : ℕ) → (Built i c → ⊥) → unbuilt i c ≡ true
unfolding unbuilt
not-both i c h = go (is_built i) (is_built c) refl refl
  where
    go : (a b : Bool) → is_built i ≡ a → is_built c ≡ b → not a || not b ≡ true
    go true true p q = absurd (h (p, q))
    go true false p q = refl
    go false b p q = refl

both : (i c : ℕ) → Built i c → unbuilt i c ≡ false
unfolding unbuilt
both i c h = simp (h.0, h.1)

either-over : (up down : ℕ) → (exhausted < up) ⊎ (exhausted < down) → any_over (up ∷ down ∷ []) ≡ true
either-over up down (inl h) = simp (lt-ltb exhausted up h)
either-over up down (inr h) = or_right (ltb exhausted up) (any_over (down ∷ [])) (simp (lt-ltb exhausted down h))

pub demand1-making : Demand1Making
unfolding new_of restore_of
demand1-making =
    record {
      created = λ i c ik ck h. rw (both i c h);
      not-created = λ i c ik ck h. rw (not-both i c h);
      restored = λ i c ik ck up down h a b. rw (both i c h, le-ltb exhausted up a, le-ltb exhausted down b);
      not-restored = λ i c ik ck up down h. rw (not-both i c h);
      over-restored = λ i c ik ck up down h over. rw (both i c h, either-over up down over);
      refuses = λ k. let e = refused-fault in fault-told k refused_context (λ z. omega arith) ∙ ap refusal e;
    }

pub demand1-changes : (x : Context) (faultless : fault_of x ≡ 0) → Demand1Changes x faultless
unfolding reselect_of window_of
demand1-changes x faultless =
    record {
      reselected = λ i c ik ck h. rw (faultless, both i c h);
      not-reselected = λ i c ik ck h. rw (faultless, not-both i c h);
      sized = λ n h. rw (faultless, le-ltb 64 n h);
      not-sized = λ n h. rw (faultless, lt-ltb 64 n h);
    }
