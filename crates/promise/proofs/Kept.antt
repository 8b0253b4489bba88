-- What is kept over any calls, from the facts of one record.
use Rattle.std.specs.Prelude.{Ok}
use Prim.Native.Nat.{ℕ, ◌+◌, ◌%◌, ◌^◌, ◌≤◌, ◌<◌}
use mathlib.Core.Path.{◌≡◌, refl, sym, ap, ◌∙◌, subst}
use mathlib.Core.Bool.{Bool, true, false, cond}
use mathlib.Core.Logic.{◌⊎◌, inl, inr, ⊎_elim, ◌↔◌}
use mathlib.Core.List.{List, [], ◌∷◌, ◌++◌}
use native.Mathlib.Omega.{arith}
use lib.Dec.{eqb}
use Rattle.count.specs.declared.Taken.TheVariants.{Forward}
use Rattle.count.specs.Rule.{exhausted, opening, forward_only, use_forward, use_late, resize_of}
use Rattle.count.specs.Run.{State, Act, stay, uses, resize, close, forward, late, round, act, Within, Valid, Passes, after, Fair, history, In, NoneTwice, PassedLast, Inside, Since, now, still, StillOpen}
use Rattle.count.specs.Facts.{Takes, Reach}
use Rattle.count.specs.Machine.{Machine, seen, view, gives_all, acts_on, used_at, Sound, Lifted}
use Rattle.count.proofs.Candidates.{clash}
use Rattle.count.proofs.Lifting.{lift, still-good, used-history, fair}
use Rattle.promise.specs.Words.{PassedOver, Words}
use Rattle.promise.specs.Kept.{Keeping, Begins, StillOpen as StillOpenBy, Due, Kept, KeptBy}

-- an act passes c over: by next alone
pub passes-iff : (a : Act) (s : State) (c : ℕ) → Valid a s → Passes a s c ↔ ((s.at.next ≤ c) × (c + 1 < (act a s).at.next))
unfolding use_forward use_late resize_of
passes-iff stay s c v = ((λ e. absurd e), λ h. absurd (omega arith))
passes-iff (uses forward n) s c v = ((λ h. (h.0, omega arith)), λ h. (h.0, omega arith))
passes-iff (uses late n) s c v = ((λ e. absurd e), λ h. absurd (omega arith))
passes-iff (uses round n) s c v = absurd v
passes-iff (resize n) s c v = ((λ e. absurd e), λ h. absurd (omega arith))
passes-iff close s c v = absurd v

-- next stays a COUNT, or exhausted
act-under : (a : Act) (s : State) → Valid a s → s.at.next ≤ exhausted → (act a s).at.next ≤ exhausted
unfolding use_forward use_late resize_of
act-under stay s v h = h
act-under (uses forward n) s v h = omega arith
act-under (uses late n) s v h = h
act-under (uses round n) s v h = absurd v
act-under (resize n) s v h = h
act-under close s v h = absurd v

pub next_under : (s : State) → s.at.next ≤ exhausted → (run : List Act) → Fair s run → (after s run).at.next ≤ exhausted
next_under s h [] f = h
next_under s h (a ∷ run) f = act-under a (after s run) f.0 (next_under s h run f.1)

since-cons : (P Q : List Act → Type 0) (a : Act) (run : List Act) → Since P Q (a ∷ run) ↔ (P (a ∷ run) × (Q (a ∷ run) ⊎ Since P Q run))
since-cons P Q a run = (apart, λ h. together h.0 h.1)
  where
    apart : Since P Q (a ∷ run) → P (a ∷ run) × (Q (a ∷ run) ⊎ Since P Q run)
    apart (now q p) = (p, inl q)
    apart (still h p) = (p, inr h)

    together : P (a ∷ run) → Q (a ∷ run) ⊎ Since P Q run → Since P Q (a ∷ run)
    together p (inl q) = now q p
    together p (inr h) = still h p

since_none : (P Q : List Act → Type 0) → (Q [] → ⊥) → Since P Q [] → ⊥
since_none P Q none (now q p) = none q

pub not_so : (b : Bool) → (b ≡ true → ⊥) → b ≡ false
not_so true n = absurd (n refl)
not_so false n = refl

module _ {X C : Type 0} {T : Machine X C} (W : Words T) (Good : X → Type 0) (keeping : Keeping W Good) (p : ℕ) (x : X) (begins : Begins T Good p x) where
  abbrev sound : Sound T Good
  sound = keeping.sound

  pub after_same : (ks : List C) → gives_all T x ks ≡ W.after x ks
  after_same [] = sym (W.after_none x)
  after_same (k ∷ ks) = ap (T.gives k) (after_same ks) ∙ sym (W.after_call k x ks)

  good-run : (ks : List C) → Good (gives_all T x ks)
  good-run ks = still-good T Good sound x begins.good p begins.there ks

  pub good-now : (ks : List C) → Good (W.after x ks)
  good-now ks = subst Good (after_same ks) (good-run ks)

  lifted : Lifted T x p
  lifted = lift X C T Good sound x begins.good p begins.there

  abbrev pub run_of : List C → List Act
  run_of ks = acts_on T p x ks

  pub state-now : (ks : List C) → after (view T p x) (run_of ks) ≡ view T p (W.after x ks)
  state-now ks = sym (lifted.record-after ks) ∙ ap (view T p) (after_same ks)

  pub used-same : (ks : List C) → used_at T p x ks ≡ W.counts p x ks
  used-same [] = sym (W.counts-none p x)
  used-same (k ∷ ks) =
      rw (after_same ks, used-same ks)
      (ap (λ (l : List ℕ). cond (eqb p (T.place k (W.after x ks))) l [] ++ W.counts p x ks) (sym (keeping.answers k (W.after x ks) (good-now ks)))
      ∙ sym (W.counts-call p k x ks))

  pub history-now : (ks : List C) → history (run_of ks) ≡ W.counts p x ks
  history-now ks = sym (used-history T Good sound x begins.good p begins.there ks) ∙ used-same ks

  pub fair-run : (ks : List C) → Fair (view T p x) (run_of ks)
  fair-run ks = fair T Good sound x begins.good p begins.there ks

  pub under-now : (ks : List C) → (view T p (W.after x ks)).at.next ≤ exhausted
  under-now ks =
      subst (λ (s : State). s.at.next ≤ exhausted) (state-now ks) (next_under (view T p x) begins.counted (run_of ks) (fair-run ks))

  -- a call passes c over
  passed-by : (k : C) (ks : List C) (c : ℕ)
      → PassedLast (view T p x) c (run_of (k ∷ ks)) ↔ PassedOver T p (W.after x ks) (W.after x (k ∷ ks)) c
  passed-by k ks c =
      let a = seen p (T.place k (gives_all T x ks)) (T.does k (gives_all T x ks)) in
      subst
      (λ (s : State).
      Passes a (after (view T p x) (run_of ks)) c
      ↔ ((s.at.next ≤ c) × (c + 1 < (view T p (W.after x (k ∷ ks))).at.next)))
      (state-now ks)
      (subst
      (λ (s : State).
      Passes a (after (view T p x) (run_of ks)) c
      ↔ (((after (view T p x) (run_of ks)).at.next ≤ c) × (c + 1 < s.at.next)))
      (state-now (k ∷ ks))
      (passes-iff a (after (view T p x) (run_of ks)) c (fair-run (k ∷ ks)).0))

  abbrev Lain : List C → ℕ → Type 0
  Lain ks c = Since (Inside (view T p x) c) (PassedLast (view T p x) c) (run_of ks)

  lain-now : (ks : List C) (c : ℕ) → Lain ks c ↔ W.lain p x ks c
  lain-now [] c =
      ((λ h. absurd (since_none (Inside (view T p x) c) (PassedLast (view T p x) c) (λ e. e) h)), λ e. absurd (W.lain-none p x c e))
  lain-now (k ∷ ks) c =
      let y = gives_all T x ks in
      let s = since-cons (Inside (view T p x) c) (PassedLast (view T p x) c) (seen p (T.place k y) (T.does k y)) (run_of ks) in
      let q = passed-by k ks c in
      let r = lain-now ks c in
      let e = state-now (k ∷ ks) in
      let w = W.lain-call p k x ks c in (
        (λ h. let t = s.0 h in w.1 (subst (λ (z : State). Within z c) e t.0, ⊎_elim (λ a. inl (q.0 a)) (λ a. inr (r.0 a)) t.1)),
        λ h. let t = w.0 h in s.1 (subst (λ (z : State). Within z c) (sym e) t.0, ⊎_elim (λ a. inl (q.1 a)) (λ a. inr (r.1 a)) t.1),
      )

  pub still-now : (ks : List C) (c : ℕ) → StillOpen (view T p x) (run_of ks) c ↔ StillOpenBy W p x ks c
  still-now ks c =
      let r = lain-now ks c in
      let e = history-now ks in (
        (λ h. ((λ u. h.0 (subst (In c) (sym e) u)), r.0 h.1)),
        λ h. ((λ u. h.0 (subst (In c) e u)), r.1 h.1),
      )

  inside-now : (ks : List C) (c : ℕ) → W.lain p x ks c → Within (view T p (W.after x ks)) c
  inside-now [] c h = absurd (W.lain-none p x c h)
  inside-now (k ∷ ks) c h = ((W.lain-call p k x ks c).0 h).0

  module _ (ks : List C) (k : ℕ) (fits : ℕ → Bool) where
    abbrev at : State
    at = view T p (W.after x ks)

    abbrev Apart : ℕ → Type 0
    Apart c = (c' : ℕ) → StillOpen (view T p x) (run_of ks) c' → c' % 2 ^ k ≡ c % 2 ^ k → fits c' ≡ false

    taken_at : (c : ℕ) → at.size < 2 ^ k → c < exhausted → fits c ≡ true
        → Takes (opening k false fits at.size at.at (c % 2 ^ k)) c ↔ (StillOpen (view T p x) (run_of ks) c ⊎ (Reach k at c × Apart c))
    taken_at c small count own =
        subst
        (λ (t : State).
        t.size < 2 ^ k
        → Takes (opening k false fits t.size t.at (c % 2 ^ k)) c ↔ (StillOpen (view T p x) (run_of ks) c ⊎ (Reach k t c × Apart c)))
        (state-now ks)
        (λ small. (lifted.facts begins.shut ks).taken k fits c small count own)
        small

    takes-iff : (c : ℕ) → at.size < 2 ^ k → c < exhausted → fits c ≡ true
        → Takes (opening k false fits at.size at.at (c % 2 ^ k)) c ↔ Due W p x ks k (λ c'. fits c' ≡ true) c
    takes-iff c small count own =
        let t = taken_at c small count own in
        let s = still-now ks in (
          (λ h. ⊎_elim (λ o. inl ((s c).0 o)) (λ o. inr (o.0, λ c' st q f. clash f (o.1 c' ((s c').1 st) q))) (t.0 h)),
          λ h. t.1 (⊎_elim (λ o. inl ((s c).1 o)) (λ o. inr (o.0, λ c' st q. not_so (fits c') (λ f. o.1 c' ((s c').0 st) q f))) h),
        )

    takes-late : (c c' : ℕ) → at.size < 2 ^ k → StillOpenBy W p x ks c' → c' % 2 ^ k ≡ c % 2 ^ k → fits c' ≡ true
        → Takes (opening k false fits at.size at.at (c % 2 ^ k)) c'
    takes-late c c' small st q f =
        let w = inside-now ks c' st.1 in
        let below : c' < exhausted = omega (arith, w.under, under-now ks) in
        subst (λ (s : ℕ). Takes (opening k false fits at.size at.at s) c') q ((takes-iff c' small below f).1 (inl st))

    takes-forward : (c : ℕ) → c < exhausted → fits c ≡ true → (forward_only k false fits at.at (c % 2 ^ k) ≡ Ok (Forward c)) ↔ Reach k at c
    takes-forward c count own =
        subst
        (λ (t : State). (forward_only k false fits t.at (c % 2 ^ k) ≡ Ok (Forward c)) ↔ Reach k t c)
        (state-now ks)
        ((lifted.facts begins.shut ks).taken-forward k fits c count own)

  pub kept_here : (ks : List C) → Kept W p x ks
  kept_here ks =
      record {
        once = subst NoneTwice (used-same ks) (lifted.once begins.shut ks);
        taken = λ k fits c small count own. takes-iff ks k fits c small count own;
        taken-late = λ k fits c c' small st q f. takes-late ks k fits c c' small st q f;
        taken-forward = λ k fits c count own. takes-forward ks k fits c count own;
      }

pub kept : KeptBy
kept X C T W Good keeping p x begins ks = (good-now W Good keeping p x begins ks, kept_here W Good keeping p x begins ks)
