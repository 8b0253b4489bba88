-- A record whose window size is not changed, from next COUNT 0: the COUNTs that it used say all.
use Prim.Native.Nat.{ℕ, ◌+◌, ◌≤◌, ◌<◌, max}
use mathlib.Core.Path.{◌≡◌, refl}
use mathlib.Core.Logic.{◌⊎◌, inl, inr, ◌↔◌}
use mathlib.Core.List.{List, [], ◌∷◌}
use native.Mathlib.Omega.{arith}
use Rattle.count.specs.Rule.{use_forward, use_late}
use Rattle.count.specs.Run.{State, Act, stay, uses, resize, close, forward, late, round, Within, after, Fair, history, In, PassedLast, Inside, Since, now, still, StillOpen, used}
use Rattle.count.proofs.Distance.{le-or-lt}
use Rattle.count.proofs.Law.{to_clear}
use Rattle.count.proofs.Runs.{grows, in-second}
use Rattle.promise.specs.TwoEnds.{highest}
use Rattle.promise.proofs.Kept.{passes-iff}

-- the COUNT after the highest of some; 0 if there is none
abbrev pub next_of : List ℕ → ℕ
next_of [] = 0
next_of (c ∷ l) = max (c + 1) (next_of l)

pub next-highest : (c : ℕ) (l : List ℕ) → next_of (c ∷ l) ≡ highest c l + 1
next-highest c [] = omega arith
next-highest c (d ∷ l) = let h = next-highest d l in omega arith

pub next-in : (l : List ℕ) (c : ℕ) → next_of l ≡ c + 1 → In c l
next-in [] c e = absurd (omega arith)
next-in (a ∷ l) c e =
    elim (le-or-lt (next_of l) a) [
      | inl h ↦ inl (omega arith)
      | inr h ↦ inr (next-in l c (omega arith))
    ]

pub in-under : (l : List ℕ) (c : ℕ) → In c l → c < next_of l
in-under (a ∷ l) c (inl e) = omega arith
in-under (a ∷ l) c (inr i) = let h = in-under l c i in omega arith
in-under [] c x' = elim x' [ ]

-- no new size, nothing closed
abbrev pub Quiet : Act → Type 0
Quiet stay = Unit {0}
Quiet (uses w c) = Unit {0}
Quiet (resize n) = ⊥
Quiet close = ⊥

abbrev pub AllQuiet : List Act → Type 0
AllQuiet [] = Unit {0}
AllQuiet (a ∷ run) = Quiet a × AllQuiet run

module _ (s : State) (fresh : s.at.next ≡ 0) where
  pub same_size : (run : List Act) → AllQuiet run → (after s run).size ≡ s.size
  same_size [] q = refl
  same_size (stay ∷ run) q = same_size run q.1
  same_size (uses w c ∷ run) q = same_size run q.1
  same_size (resize n ∷ run) q = absurd q.0
  same_size (close ∷ run) q = absurd q.0

  pub next-is : (run : List Act) → Fair s run → AllQuiet run → (after s run).at.next ≡ next_of (history run)
  unfolding use_forward use_late
  next-is [] f q = fresh
  next-is (stay ∷ run) f q = next-is run f.1 q.1
  next-is (uses forward c ∷ run) f q = let e = next-is run f.1 q.1 in omega arith
  next-is (uses late c ∷ run) f q =
      let e = next-is run f.1 q.1 in
      let o = to_clear (after s run) c f.0 in
      omega arith
  next-is (uses round c ∷ run) f q = absurd f.0
  next-is (resize n ∷ run) f q = absurd q.0
  next-is (close ∷ run) f q = absurd q.0

  -- one act more
  more : (a : Act) (run : List Act) → Fair s (a ∷ run) → AllQuiet (a ∷ run) → (c : ℕ) → (In c (history (a ∷ run)) → ⊥) → Within (after s (a ∷ run)) c
      → (Within (after s run) c → Since (Inside s c) (PassedLast s c) run) → Since (Inside s c) (PassedLast s c) (a ∷ run)
  more a run f q c n w earlier = go (le-or-lt (after s run).at.next c) (le-or-lt (after s run).at.next (c + 1))
    where
      go : ((after s run).at.next ≤ c) ⊎ (c < (after s run).at.next) → ((after s run).at.next ≤ c + 1) ⊎ (c + 1 < (after s run).at.next)
          → Since (Inside s c) (PassedLast s c) (a ∷ run)
      go (inl h) t = now ((passes-iff a (after s run) c f.0).1 (h, w.under)) w
      go (inr h) (inl l) =
          let e = next-is run f.1 q.1 in
          absurd (n (in-second c (used a) (history run) (next-in (history run) c (omega arith))))
      go (inr h) (inr l) =
          let g = grows a (after s run) f.0 in
          let e1 = same_size run q.1 in
          let e2 = same_size (a ∷ run) q in
          still (earlier record { under = l; near = omega (arith, w.near) }) w

  lain : (run : List Act) → Fair s run → AllQuiet run → (c : ℕ) → (In c (history run) → ⊥) → Within (after s run) c
      → Since (Inside s c) (PassedLast s c) run
  lain [] f q c n w = absurd (omega (arith, w.under))
  lain (a ∷ run) f q c n w =
      more a run f q c n w (λ i. lain run f.1 q.1 c (λ u. n (in-second c (used a) (history run) u)) i)

  -- open late exactly if not used and inside the window
  pub steady : (run : List Act) → Fair s run → AllQuiet run → (c : ℕ) → StillOpen s run c ↔ ((In c (history run) → ⊥) × Within (after s run) c)
  steady run f q c = ((λ h. (h.0, here run h.1)), λ h. (h.0, lain run f q c h.0 h.1))
    where
      here : (run : List Act) → Since (Inside s c) (PassedLast s c) run → Within (after s run) c
      here run (now q p) = p
      here (a ∷ run) (still h p) = p
