-- An open across connections is the open call of the connection that it answers; so what holds of the calls holds of any mixture.
use Rattle.std.specs.Prelude.{Option, None, Some, Ok, Err}
use Prim.Native.Nat.{ℕ, ◌≤◌, ◌<◌}
use mathlib.Core.Path.{◌≡◌, refl, sym, ap, subst, ◌∙◌}
use mathlib.Core.Bool.{Bool, true, false, cond, not, ◌&&◌}
use mathlib.Core.Logic.{◌⊎◌, inl, inr, ⊎_elim, ◌↔◌}
use mathlib.Core.List.{List, [], ◌∷◌, ◌++◌}
use native.Mathlib.Omega.{arith}
use lib.ListN.{length, get_or}
use lib.Dec.{eqb}
use Rattle.count.specs.Rule.{Opening, exhausted, late_of, forward_of, try_forward, try, opening, distance_of}
use Rattle.count.specs.declared.Taken.TheVariants.{Late, Forward}
use Rattle.count.specs.declared.Missed.TheVariants.{NoCandidate, WrongCode}
use Rattle.count.specs.Run.{NoneTwice}
use Rattle.nas_core.specs.declared.Core.{Core}
use Rattle.nas_core.specs.Keyed.{wraps}
use Rattle.nas_core.specs.Refusals.{limit}
use Rattle.nas_core.specs.Verify.{fits, verify_of}
use Rattle.nas_5gs.specs.declared.Context.{Context}
use Rattle.nas_core.specs.declared.Direction.{Direction}
use Rattle.nas_core.specs.declared.Direction.TheVariants.{Uplink, Downlink}
use Rattle.nas_5gs.specs.declared.Connection.{Connection}
use Rattle.nas_5gs.specs.declared.Connection.TheVariants.{ThreeGpp, Non3Gpp}
use Rattle.nas_5gs.specs.OpenAnswer.{OpenAnswer, Refused, Accepted, Content}
use Rattle.nas_5gs.specs.Places.{direction_no, bearer_no, place_of, record_at}
use Rattle.nas_5gs.specs.Leaves.{LeavesTwo, leaves_two, over, received, open_values}
use Rattle.nas_5gs.specs.Envelope.{envelope}
use Rattle.initial.specs.Inside.{Hidden}
use Rattle.look.specs.Look.{look_of}
use Rattle.envelope.specs.Initial.{beside, beside_of as inside_of}
use Rattle.nas_5gs.specs.Open.{type_of, open_refusal, room_for, inside_number, handed, plain_of, opened, open_of}
use Rattle.handover.specs.Across.{other, LeavesAcross, leaves_across, on, refusal_of, is_missed, both_of, elsewhere_of, across_of}
use Rattle.handover.proofs.Missed.{missed}
use Rattle.promises.specs.Words.{SameKeys, TakenAs}
use Rattle.promises.specs.Calls.{Call, open5gs, outcome, used_by, first_of, second_of, gives, place_in, context_after, counts_used}
use Rattle.promises.specs.Demand3.{Begins, NeverToNull, Due}
use Rattle.promises.specs.Isolation.{Elsewhere}
use Rattle.promises.proofs.Promises.{promises}
use Rattle.promises.proofs.Demand3.{place-there, beginning, guarded-now}
use Rattle.promises.proofs.Taking.{no-fault, open-passes, has_room, envelope-type, envelope-first, envelope-long}
use Rattle.promises_handover.specs.Handover.{AnyCall, own, across, outcome_of, connection_of, beside_of, any_gives, as_call, kept_after, as_calls, used_on, AsOpen, FitsNone, Across, NoneOn, Handover}

clash : {P : Type 0} → ◌≡◌ {A = Bool} false true → P
clash e = absurd (let z : ◌≡◌ {A = ℕ} 0 1 = cc in omega arith)

-- what an open call left, told of a connection
on-outcome : (k : Connection) (l : LeavesTwo OpenAnswer) → outcome_of (on k l) ≡ outcome open_values (first_of l)
on-outcome k (leaves_two a x out out2) = refl

on-connection : (k : Connection) (l : LeavesTwo OpenAnswer) → connection_of (on k l) ≡ k
on-connection k (leaves_two a x out out2) = refl

on-beside : (k : Connection) (l : LeavesTwo OpenAnswer) → beside_of (on k l) ≡ second_of l
on-beside k (leaves_two a x out out2) = refl

-- a refusal with 6 or 7 uses nothing
used-not-missed : (l : LeavesTwo OpenAnswer) → (outcome open_values (first_of l)).values.uses ≡ true → is_missed (refusal_of l) ≡ false
unfolding is_missed
used-not-missed (leaves_two (Refused n) x out out2) e = clash e
used-not-missed (leaves_two (Accepted c f w t s) x out out2) e = refl
used-not-missed (leaves_two (Content c f w t n) x out out2) e = refl

both-missed : (n m : ℕ) → (both_of n m ≡ 6) ⊎ (both_of n m ≡ 7)
unfolding both_of
both-missed n m = go (eqb n 6 && eqb m 6)
  where
    go : (b : Bool) → (◌≡◌ {A = ℕ} (cond b 6 7) 6) ⊎ (◌≡◌ {A = ℕ} (cond b 6 7) 7)
    go true = inl refl
    go false = inr refl

-- the three ways that an open across goes
module _ (x : Context) (d : Direction) (k : Connection) (m out out2 : List ℕ) where
  abbrev L : LeavesAcross
  L = across_of x d k m out out2

  abbrev open-on : Connection → LeavesTwo OpenAnswer
  open-on j = open_of x d j m out out2

  pub data Way : Type 0 where
    here : not (wraps x.core) && is_missed (refusal_of (open-on k)) ≡ false → L ≡ on k (open-on k) → Way
    there : is_missed (refusal_of (open-on k)) ≡ true → is_missed (refusal_of (open-on (other k))) ≡ false → L ≡ on (other k) (open-on (other k)) → Way
    nowhere : is_missed (refusal_of (open-on k)) ≡ true → is_missed (refusal_of (open-on (other k))) ≡ true → (n : ℕ) → (n ≡ 6) ⊎ (n ≡ 7) → L ≡ leaves_across k (Refused n) x out out2 → Way

  right : (p q : Bool) → p && q ≡ true → q ≡ true
  right true q h = h
  right false q h = clash h

  pub way : Way
  unfolding across_of elsewhere_of
  way = go (not (wraps x.core) && is_missed (refusal_of (open-on k))) (is_missed (refusal_of (open-on (other k)))) refl refl
    where
      go : (a b : Bool) → not (wraps x.core) && is_missed (refusal_of (open-on k)) ≡ a → is_missed (refusal_of (open-on (other k))) ≡ b → Way
      go false b e f = here e (simp e)
      go true false e f = there (right (not (wraps x.core)) (is_missed (refusal_of (open-on k))) e) f (simp (e, f))
      go true true e f =
          nowhere (right (not (wraps x.core)) (is_missed (refusal_of (open-on k))) e) f (both_of (refusal_of (open-on k)) (refusal_of (open-on (other k))))
          (both-missed (refusal_of (open-on k)) (refusal_of (open-on (other k)))) (simp (e, f))

  -- it is the open call of the connection that it answers
  told : (j : Connection) (l : LeavesTwo OpenAnswer) → l ≡ open-on j → AsOpen x d m out out2 (on j l)
  told j (leaves_two a y o o2) e =
      record {
        context = ap (λ (l : LeavesTwo OpenAnswer). (outcome open_values (first_of l)).context) e;
        used = ap (λ (l : LeavesTwo OpenAnswer). used_by (outcome open_values (first_of l)).values) e;
        output = ap (λ (l : LeavesTwo OpenAnswer). (outcome open_values (first_of l)).output) e;
        output-second = ap second_of e;
        values = λ p q. ap (λ (l : LeavesTwo OpenAnswer). (outcome open_values (first_of l)).values) e;
      }

  pub as-open : AsOpen x d m out out2 L
  as-open = by_way way
    where
      by_way : Way → AsOpen x d m out out2 L
      by_way (here e q) = subst (AsOpen x d m out out2) (sym q) (told k (open-on k) refl)
      by_way (there e f q) = subst (AsOpen x d m out out2) (sym q) (told (other k) (open-on (other k)) refl)
      by_way (nowhere e f n six q) =
          let h = missed x out out2 d k m e in
          subst (AsOpen x d m out out2) (sym q)
          record {
            context = sym (ap (λ (l : LeavesTwo OpenAnswer). (outcome open_values (first_of l)).context) h);
            used = sym (ap (λ (l : LeavesTwo OpenAnswer). used_by (outcome open_values (first_of l)).values) h);
            output = sym (ap (λ (l : LeavesTwo OpenAnswer). (outcome open_values (first_of l)).output) h);
            output-second = sym (ap second_of h);
            values = λ a b. absurd (⊎_elim a b six);
          }

  abbrev Stays : LeavesAcross → Type 0
  Stays l = ((outcome_of l).values.number ≡ 0 → ⊥) → ((outcome_of l).values.number ≡ 8 → ⊥)
      → ((outcome_of l).context ≡ x) × ((outcome_of l).output ≡ out) × (beside_of l ≡ out2)

  stays : (j : Connection) → Stays (on j (open-on j))
  stays j =
      rw (on-outcome j (open-on j), on-beside j (open-on j))
      (λ a b. let q = promises.demand1 (open5gs d j m out out2) x in ((q.kept a b).1, (q.kept a b).2, (q.untouched a).1))

  pub kept : Stays L
  kept = by_way way
    where
      by_way : Way → Stays L
      by_way (here e q) = subst Stays (sym q) (stays k)
      by_way (there e f q) = subst Stays (sym q) (stays (other k))
      by_way (nowhere e f n six q) = subst Stays (sym q) (λ a b. (refl, refl, refl))

  pub null : wraps x.core ≡ true → L ≡ on k (open-on k)
  unfolding across_of
  null e = simp e

-- any mixture is its calls
asks : (s : AnyCall) (x : Context) → ((any_gives s x).context ≡ (gives (as_call s x) x).context) × (used_by (any_gives s x).values ≡ used_by (gives (as_call s x) x).values)
asks (own k) x = (refl, refl)
asks (across d k m out out2) x = let a = as-open x d k m out out2 in (a.context, a.used)

context : (x : Context) (ss : List AnyCall) → kept_after x ss ≡ context_after gives x (as_calls x ss)
context x [] = refl
context x (s ∷ ss) =
    (asks s (kept_after x ss)).0 ∙ ap (λ y. (gives (as_call s (kept_after x ss)) y).context) (context x ss)

counts : (x : Context) (ss : List AnyCall) (p : ℕ) → used_on p x ss ≡ counts_used gives p x (as_calls x ss)
counts x [] p = refl
counts x (s ∷ ss) p =
    let k = as_call s (kept_after x ss) in
    let e = (asks s (kept_after x ss)).1 ∙ ap (λ y. used_by (gives k y).values) (context x ss) in
    ap (λ (u : List ℕ). cond (eqb p (place_in k)) u [] ++ used_on p x ss) e
    ∙ ap (λ (us : List ℕ). cond (eqb p (place_in k)) (used_by (gives k (context_after gives x (as_calls x ss))).values) [] ++ us) (counts x ss p)

-- what the opening of a message finds, and its candidates
abbrev Misses : Opening → Type 0
Misses o = (o ≡ Err NoCandidate) ⊎ (o ≡ Err WrongCode)

module _ (fit : ℕ → Bool) where
  abbrev FitsNeither : Option ℕ → Option ℕ → Type 0
  FitsNeither late ahead = (c : ℕ) → (late ≡ Some c) ⊎ (ahead ≡ Some c) → fit c ≡ true → ⊥

  ahead-misses : (late ahead : Option ℕ) → FitsNeither late ahead → Misses (try_forward fit ahead)
  ahead-misses late None h = inl refl
  ahead-misses late (Some c) h = go (fit c) refl
    where
      go : (b : Bool) → fit c ≡ b → Misses (cond b (Ok (Forward c)) (Err WrongCode))
      go true e = absurd (h c (inr refl) e)
      go false e = inr refl

  fits-neither : (late ahead : Option ℕ) → FitsNeither late ahead → Misses (try fit late ahead)
  fits-neither None ahead h = ahead-misses None ahead h
  fits-neither (Some c) ahead h = go (fit c) refl
    where
      go : (b : Bool) → fit c ≡ b → Misses (cond b (Ok (Late c)) (try_forward fit ahead))
      go true e = absurd (h c (inl refl) e)
      go false e = ahead-misses (Some c) ahead h

  not_late : {P : Type 0} (c : ℕ) → Misses (Ok (Late c)) → P
  not_late c (inl e) = absurd (let z : ◌≡◌ {A = ℕ} 0 1 = cc in omega arith)
  not_late c (inr e) = absurd (let z : ◌≡◌ {A = ℕ} 0 1 = cc in omega arith)

  not-forward : {P : Type 0} (c : ℕ) → Misses (Ok (Forward c)) → P
  not-forward c (inl e) = absurd (let z : ◌≡◌ {A = ℕ} 0 1 = cc in omega arith)
  not-forward c (inr e) = absurd (let z : ◌≡◌ {A = ℕ} 0 1 = cc in omega arith)

  ahead-neither : (ahead : Option ℕ) → Misses (try_forward fit ahead) → (c : ℕ) → ahead ≡ Some c → fit c ≡ true → ⊥
  ahead-neither ahead q c e f = not-forward c (simp f at (rw e at q))

  misses : (late ahead : Option ℕ) → Misses (try fit late ahead) → FitsNeither late ahead
  misses late ahead q c (inl e) f = not_late c (simp f at (rw e at q))
  misses None ahead q c (inr e) f = ahead-neither ahead q c e f
  misses (Some b) ahead q c (inr e) f = go (fit b) q
    where
      go : (t : Bool) → Misses (cond t (Ok (Late b)) (try_forward fit ahead)) → ⊥
      go true w = not_late b w
      go false w = ahead-neither ahead w c e f

to-misses : (fit : ℕ → Bool) (w : Bool) → w ≡ false → (late ahead : Option ℕ) → FitsNeither fit late ahead → Misses (try fit (cond w None late) ahead)
to-misses fit true e late ahead h = clash (sym e)
to-misses fit false e late ahead h = fits-neither fit late ahead h

of-misses : (fit : ℕ → Bool) (w : Bool) → w ≡ false → (late ahead : Option ℕ) → Misses (try fit (cond w None late) ahead) → FitsNeither fit late ahead
of-misses fit true e late ahead q = clash (sym e)
of-misses fit false e late ahead q = misses fit late ahead q

which : (k a : Connection) → (k ≡ a) ⊎ (other k ≡ a)
which ThreeGpp ThreeGpp = inl refl
which ThreeGpp Non3Gpp = inr refl
which Non3Gpp ThreeGpp = inr refl
which Non3Gpp Non3Gpp = inl refl

-- an open call that its early refusals let pass refuses with 6 or 7 exactly when its opening misses
module _ (x : Context) (d : Direction) (m out out2 : List ℕ) where
  abbrev found : Connection → Opening
  found j = verify_of x.core (record_at x (place_of d j)) (bearer_no j) (direction_no d) 2 m

  answered : (c f w t n s : ℕ) (y : Context) (o o2 : List ℕ) (b : Bool) → is_missed (refusal_of (leaves_two (cond b (Accepted c f w t s) (Content c f w t n)) y o o2)) ≡ false
  unfolding is_missed
  answered c f w t n s y o o2 true = refl
  answered c f w t n s y o o2 false = refl

  hands : (t n : ℕ) (plain : List ℕ) (h : Hidden) (c f : ℕ) (y : Context) → is_missed (refusal_of (handed t n plain h out out2 c f y)) ≡ false
  unfolding handed
  hands t n plain h c f y =
      let i = inside_number (look_of t n plain) h in
      answered c f (length plain) t i (length (beside h)) y (over plain out) (over (beside h) out2) (eqb i 0)

  abbrev by-opening : ℕ → ℕ → Opening → LeavesTwo OpenAnswer
  by-opening p b o =
      received x p
      (λ n. leaves_two (Refused n) x out out2)
      (λ c next. handed (type_of m) (direction_no d) (plain_of x.core c b (direction_no d) m)
      (inside_of x.core (type_of m) c b (direction_no d) (plain_of x.core c b (direction_no d) m)) out out2 c (distance_of (record_at x p) c) next)
      o

  missed-only : (p b : ℕ) (o : Opening) → is_missed (refusal_of (by-opening p b o)) ≡ true → Misses o
  missed-only p b (Err NoCandidate) e = inl refl
  missed-only p b (Err WrongCode) e = inr refl
  missed-only p b (Ok (Late c)) e = clash (sym (hands (type_of m) (direction_no d) _ _ c _ _) ∙ e)
  missed-only p b (Ok (Forward c)) e = clash (sym (hands (type_of m) (direction_no d) _ _ c _ _) ∙ e)

  missed-then : (p b : ℕ) (o : Opening) → Misses o → is_missed (refusal_of (by-opening p b o)) ≡ true
  unfolding is_missed
  missed-then p b o (inl e) = rw e refl
  missed-then p b o (inr e) = rw e refl

  module _ (passes : open_refusal x m (room_for (type_of m) (direction_no d) (length out) (length out2)) ≡ 0) (guarded : wraps x.core ≡ false) where
    is-opened : (j : Connection) → open_of x d j m out out2 ≡ by-opening (place_of d j) (bearer_no j) (found j)
    unfolding open_of opened
    is-opened j = simp passes

    fits-none : (k : Connection) → FitsNone x d k m → is_missed (refusal_of (open_of x d k m out out2)) ≡ true
    unfolding verify_of opening
    fits-none k h =
        ap (λ l. is_missed (refusal_of l)) (is-opened k)
        ∙ missed-then (place_of d k) (bearer_no k) (found k)
        (to-misses (λ c. fits x.core c (bearer_no k) (direction_no d) 2 m) (wraps x.core) guarded
        (late_of 8 x.core.size (record_at x (place_of d k)) (get_or m 6 0)) (forward_of 8 (wraps x.core) (record_at x (place_of d k)) (get_or m 6 0)) h)

    missed-fits : (k : Connection) → is_missed (refusal_of (open_of x d k m out out2)) ≡ true → FitsNone x d k m
    unfolding verify_of opening
    missed-fits k e =
        of-misses (λ c. fits x.core c (bearer_no k) (direction_no d) 2 m) (wraps x.core) guarded
        (late_of 8 x.core.size (record_at x (place_of d k)) (get_or m 6 0)) (forward_of 8 (wraps x.core) (record_at x (place_of d k)) (get_or m 6 0))
        (missed-only (place_of d k) (bearer_no k) (found k) (sym (ap (λ l. is_missed (refusal_of l)) (is-opened k)) ∙ e))

    -- a message that is taken on a exactly when D, given on k
    module _ (a k : Connection) (c : ℕ) (inner : List ℕ) (D : Type 0) (exactly : TakenAs (gives (open5gs d a m out out2) x) c inner out ↔ D) where
      abbrev took : LeavesAcross → Type 0
      took l = (connection_of l ≡ a) × TakenAs (outcome_of l) c inner out

      of_one : (j : Connection) → took (on j (open_of x d j m out out2)) → (j ≡ a) × D
      of_one j t =
          let e = sym (on-connection j (open_of x d j m out out2)) ∙ t.0 in
          let o : TakenAs (gives (open5gs d j m out out2) x) c inner out = subst (λ o. TakenAs o c inner out) (on-outcome j (open_of x d j m out out2)) t.1 in
          (e, exactly.0 (subst (λ i. TakenAs (gives (open5gs d i m out out2) x) c inner out) e o))

      one_of : (j : Connection) → j ≡ a → D → took (on j (open_of x d j m out out2))
      one_of j e due =
          let o = subst (λ i. TakenAs (gives (open5gs d i m out out2) x) c inner out) (sym e) (exactly.1 due) in
          (on-connection j (open_of x d j m out out2) ∙ e, subst (λ o. TakenAs o c inner out) (sym (on-outcome j (open_of x d j m out out2))) o)

      -- where it is due, the connection that sealed it does not miss it
      not-missed : D → is_missed (refusal_of (open_of x d a m out out2)) ≡ false
      not-missed due = used-not-missed (open_of x d a m out out2) (exactly.1 due).uses

      abbrev Goal : Type 0
      Goal = D × ((k ≡ a) ⊎ FitsNone x d k m)

      to : took (across_of x d k m out out2) → Goal
      to t = by_way (way x d k m out out2)
        where
          by_way : Way x d k m out out2 → Goal
          by_way (here e q) = let r = of_one k (subst took q t) in (r.1, inl r.0)
          by_way (there e f q) = let r = of_one (other k) (subst took q t) in (r.1, inr (missed-fits k e))
          by_way (nowhere e f n six q) = clash (subst took q t).1.uses

      on-k : D → k ≡ a → Way x d k m out out2 → took (across_of x d k m out out2)
      on-k due e w =
          by_way (subst (λ j. is_missed (refusal_of (open_of x d j m out out2)) ≡ false) (sym e) (not-missed due)) w
        where
          by_way : is_missed (refusal_of (open_of x d k m out out2)) ≡ false → Way x d k m out out2 → took (across_of x d k m out out2)
          by_way n (here f q) = subst took (sym q) (one_of k e due)
          by_way n (there f g q) = clash (sym n ∙ f)
          by_way n (nowhere f g i six q) = clash (sym n ∙ f)

      on-other : D → other k ≡ a → is_missed (refusal_of (open_of x d k m out out2)) ≡ true → Way x d k m out out2 → took (across_of x d k m out out2)
      on-other due e h w =
          by_way (subst (λ j. is_missed (refusal_of (open_of x d j m out out2)) ≡ false) (sym e) (not-missed due)) w
        where
          tried : not (wraps x.core) && is_missed (refusal_of (open_of x d k m out out2)) ≡ true
          tried = simp (guarded, h)

          by_way : is_missed (refusal_of (open_of x d (other k) m out out2)) ≡ false → Way x d k m out out2 → took (across_of x d k m out out2)
          by_way n (here f q) = clash (sym f ∙ tried)
          by_way n (there f g q) = subst took (sym q) (one_of (other k) e due)
          by_way n (nowhere f g i six q) = clash (sym n ∙ g)

      from : Goal → took (across_of x d k m out out2)
      from g = go (which k a) g.1
        where
          go : (k ≡ a) ⊎ (other k ≡ a) → (k ≡ a) ⊎ FitsNone x d k m → took (across_of x d k m out out2)
          go (inl e) v = on-k g.0 e (way x d k m out out2)
          go (inr e) (inl f) = on-k g.0 f (way x d k m out out2)
          go (inr e) (inr none) = on-other g.0 e (fits-none k none) (way x d k m out out2)

      pub given-on : took (across_of x d k m out out2) ↔ Goal
      given-on = (to, from)

uplink : (d : Direction) → direction_no d ≡ 0 → d ≡ Uplink
uplink Uplink e = refl
uplink Downlink e = absurd (omega arith)

-- after any calls, on the context that they are as calls of their own
module _ (x : Context) (b : Begins x) (ks : List Call) (h : NeverToNull gives x ks) where
  abbrev now : Context
  now = context_after gives x ks

  opens : (d : Direction) (a k : Connection) (y : Core) (t c : ℕ) (inner out out2 : List ℕ)
      → let m = envelope y t c (bearer_no a) (direction_no d) inner in
      let L = across_of now d k m out out2 in
      SameKeys y now.core → 1 ≤ t → t ≤ 4 → c < exhausted → 1 ≤ length inner → length inner ≤ limit → length inner ≤ length out
      → (t ≡ 1 → d ≡ Uplink → length inner ≤ length out2)
      → ((connection_of L ≡ a) × TakenAs (outcome_of L) c inner out)
      ↔ (Due gives (place_of d a) x ks (λ c'. fits now.core c' (bearer_no a) (direction_no d) 2 m ≡ true) c × ((k ≡ a) ⊎ FitsNone now d k m))
  opens d a k y t c inner out out2 same from to count some low room room2 =
      let m = envelope y t c (bearer_no a) (direction_no d) inner in
      let g = guarded-now x (beginning x b) ks h in
      let fault = no-fault now g.ok.built g.ok.small g.ok.counts in
      let type = envelope-type y t c (bearer_no a) (direction_no d) inner from to in
      let fit : length inner ≤ room_for (type_of m) (direction_no d) (length out) (length out2) =
      has_room (type_of m) (direction_no d) (length inner) (length out) (length out2) room (λ e f. room2 (sym type ∙ e) (uplink d f)) in
      let passes = open-passes now fault m (length inner) (room_for (type_of m) (direction_no d) (length out) (length out2)) low fit t
      (envelope-long y t c (bearer_no a) (direction_no d) inner) some (envelope-first y t c (bearer_no a) (direction_no d) inner) type from to in
      given-on now d m out out2 passes g.good.guarded a k c inner
      (Due gives (place_of d a) x ks (λ c'. fits now.core c' (bearer_no a) (direction_no d) 2 m ≡ true) c)
      ((promises.demand3 x b ks h).opens d a y t c inner out out2 same from to count some low room room2).exactly

demand3 : (x : Context) → Begins x → (ss : List AnyCall) → NeverToNull gives x (as_calls x ss) → Across x ss
demand3 x b ss h =
    record {
      context = context x ss;
      counts = counts x ss;
      once = λ d k. subst NoneTwice (sym (counts x ss (place_of d k))) ((promises.demand3 x b (as_calls x ss) h).once d k);
      opens = λ d a k y t c inner out out2.
          subst
          (λ (now : Context).
          let m = envelope y t c (bearer_no a) (direction_no d) inner in
          let L = across_of now d k m out out2 in
          SameKeys y now.core → 1 ≤ t → t ≤ 4 → c < exhausted → 1 ≤ length inner → length inner ≤ limit → length inner ≤ length out
          → (t ≡ 1 → d ≡ Uplink → length inner ≤ length out2)
          → ((connection_of L ≡ a) × TakenAs (outcome_of L) c inner out)
          ↔ (Due gives (place_of d a) x (as_calls x ss) (λ c'. fits now.core c' (bearer_no a) (direction_no d) 2 m ≡ true) c × ((k ≡ a) ⊎ FitsNone now d k m)))
          (sym (context x ss)) (opens x b (as_calls x ss) h d a k y t c inner out out2);
    }

-- isolation
none-on : (p : ℕ) (x : Context) (ss : List AnyCall) → NoneOn p ss → Elsewhere p (as_calls x ss)
none-on p x [] h = tt
none-on p x (own k ∷ ss) h = (h.0.0, h.0.1, none-on p x ss h.1)
none-on p x (across d k m out out2 ∷ ss) h =
    let j = connection_of (across_of (kept_after x ss) d k m out out2) in
    (place-there d j, h.0 j, none-on p x ss h.1)

pub handover : Handover
handover =
    record {
      as-open = as-open;
      kept = kept;
      null = null;
      demand3 = demand3;
      isolation = λ x four p low ss e.
          let i = promises.isolation x four p low (as_calls x ss) (none-on p x ss e) in
          (ap (λ y. record_at y p) (context x ss) ∙ i.left, i);
    }
