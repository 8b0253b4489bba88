-- The two candidates: when each is there, and which COUNT it is.
use Rattle.std.specs.Prelude.{None, Some}
use Prim.Native.Nat.{ℕ, ◌+◌, ◌-◌, ◌%◌, ◌^◌, ◌≤◌, ◌<◌}
use mathlib.Core.Path.{◌≡◌, refl, sym, ap, ◌∙◌, subst}
use mathlib.Core.Bool.{Bool, true, false, cond, ◌&&◌}
use mathlib.Core.Logic.{◌⊎◌, inl, inr}
use native.Mathlib.Omega.{arith}
use lib.Dec.{ltb, leb}
use borrow.Author.Tests.{ltb-true, leb-true, eqb-true, lt-ltb, le-ltb, le-leb, lt-leb, eq-eqb}
use Rattle.count.specs.Rule.{exhausted, bit, distance, forward_of, open_at, late_of}
use Rattle.count.specs.Facts.{Least, CandidatesHold}
use Rattle.count.specs.declared.Record.{Record}
use Rattle.count.proofs.Distance.{le-or-lt, residue, distance-lt, distance-ends, distance-down, distance-under}

pub never : {A : Type 0} {c : ℕ} → None ≡ Some c → A
never e = let z : ◌≡◌ {A = ℕ} 0 1 = cc in absurd (omega arith)

pub clash : {A : Type 0} {b : Bool} → b ≡ true → b ≡ false → A
clash p q = let z : ◌≡◌ {A = ℕ} 0 1 = cc in absurd (omega arith)

-- the forward candidate, case by case
abbrev pub up : ℕ → Record → ℕ → ℕ
up k r s = r.next + distance k r.next s

module _ (k : ℕ) (wraps : Bool) (r : Record) (s : ℕ) where
  pub forward-over : exhausted ≤ r.next → forward_of k wraps r s ≡ None
  unfolding forward_of
  forward-over h = simp (le-leb exhausted r.next h)

  pub forward-up : up k r s < exhausted → forward_of k wraps r s ≡ Some (up k r s)
  unfolding forward_of
  forward-up h =
      let l : r.next < exhausted = omega arith in
      simp (lt-leb exhausted r.next l, lt-ltb (up k r s) exhausted h)

  pub forward-past : r.next < exhausted → exhausted ≤ up k r s → forward_of k wraps r s ≡ cond wraps (Some (up k r s % exhausted)) None
  unfolding forward_of
  forward-past h l = simp (lt-leb exhausted r.next h, le-ltb (up k r s) exhausted l)

-- c is among the 2^k numbers from next on, and ends like s
pub record Reached (k : ℕ) (r : Record) (s c : ℕ) : Type 0 where
  pub from : r.next ≤ c
  pub reach : c < r.next + 2 ^ k
  pub ends : c % 2 ^ k ≡ s % 2 ^ k

module _ (k : ℕ) (r : Record) (s : ℕ) where
  up-reached : Reached k r s (up k r s)
  up-reached = record { from = omega arith; reach = omega (arith, distance-lt k r.next s); ends = distance-ends k r.next s }

  reached-least : (c : ℕ) → Reached k r s c → Least k r s c
  reached-least c t = (
    t.from,
    t.ends,
    λ c' l q. elim (le-or-lt c c') [ inl h ↦ h | inr h ↦ omega (arith, residue (2 ^ k) c' c (q ∙ sym t.ends) (omega arith) (omega arith)) ],
  )

  least-reached : (c : ℕ) → Least k r s c → Reached k r s c
  least-reached c t =
      let l = t.2 (up k r s) up-reached.from up-reached.ends in
      record { from = t.0; reach = omega (arith, up-reached); ends = t.1 }

  pub reached-up : (c : ℕ) → Reached k r s c → up k r s ≡ c
  reached-up c t =
      let u = up-reached in
      residue (2 ^ k) (up k r s) c (u.ends ∙ sym t.ends) (omega arith) (omega arith)

module _ (k : ℕ) (wraps : Bool) (r : Record) (s c : ℕ) where
  pub forward-is : c < exhausted → Reached k r s c → forward_of k wraps r s ≡ Some c
  forward-is count t = let e = reached-up k r s c t in forward-up k wraps r s (omega arith) ∙ ap Some e

  -- it is one of these, or past the end and round
  abbrev Found : Type 0
  Found = (c < exhausted) × (Reached k r s c ⊎ ((wraps ≡ true) × (c ≡ up k r s % exhausted)))

  pub forward-found : forward_of k wraps r s ≡ Some c → Found
  forward-found e = first (le-or-lt exhausted r.next)
    where
      round : (w : Bool) → wraps ≡ w → cond w (Some (up k r s % exhausted)) None ≡ Some c → Found
      round true q f = let z : up k r s % exhausted ≡ c = cc in (omega arith, inr (q, sym z))
      round false q f = never f

      second : r.next < exhausted → (exhausted ≤ up k r s) ⊎ (up k r s < exhausted) → Found
      second h (inl l) = round wraps refl (sym (forward-past k wraps r s h l) ∙ e)
      second h (inr l) =
          let q : up k r s ≡ c = cc (forward-up k wraps r s l) in
          (omega arith, inl (subst (Reached k r s) q (up-reached k r s)))

      first : (exhausted ≤ r.next) ⊎ (r.next < exhausted) → Found
      first (inl h) = never (sym (forward-over k wraps r s h) ∙ e)
      first (inr h) = second h (le-or-lt exhausted (up k r s))

module _ (k : ℕ) (r : Record) (s : ℕ) where
  pub forward-reached : (c : ℕ) → forward_of k false r s ≡ Some c → (c < exhausted) × Reached k r s c
  forward-reached c e = let f = forward-found k false r s c e in (f.0, elim f.1 [ inl t ↦ t | inr t ↦ clash t.0 refl ])

  forward-none : exhausted ≤ up k r s → forward_of k false r s ≡ None
  forward-none h =
      elim (le-or-lt exhausted r.next) [ inl l ↦ forward-over k false r s l | inr l ↦ forward-past k false r s l h ]

-- what open_at tests
pub record OpenAt (size : ℕ) (r : Record) (d : ℕ) : Type 0 where
  pub some-used : 0 < r.next
  pub down : 1 ≤ d
  pub near : d ≤ size
  pub low : d ≤ r.next - 1
  pub clear : bit r.bits (d - 1) ≡ 0

and-true : (a b : Bool) → (a && b) ≡ true → (a ≡ true) × (b ≡ true)
and-true true b e = (refl, e)
and-true false b e = (e, (cc))

module _ (size : ℕ) (r : Record) (d : ℕ) where
  pub at_open : open_at size r d ≡ true → OpenAt size r d
  unfolding open_at
  at_open e =
      let t1 = and-true (ltb 0 r.next) _ e in
      let t2 = and-true (leb 1 d) _ t1.1 in
      let t3 = and-true (leb d size) _ t2.1 in
      let t4 = and-true (leb d (r.next - 1)) _ t3.1 in
      record {
        some-used = ltb-true _ _ t1.0;
        down = leb-true _ _ t2.0;
        near = leb-true _ _ t3.0;
        low = leb-true _ _ t4.0;
        clear = eqb-true _ _ t4.1;
      }

  pub open-at : OpenAt size r d → open_at size r d ≡ true
  unfolding open_at
  open-at o =
      simp (
        lt-ltb 0 r.next o.some-used,
        le-leb 1 d o.down,
        le-leb d size o.near,
        le-leb d (r.next - 1) o.low,
        eq-eqb (bit r.bits (d - 1)) 0 o.clear,
      )

-- the late candidate, where it is there
abbrev down_by : ℕ → Record → ℕ → ℕ
down_by k r s = distance k s (r.next - 1)

module _ (k size : ℕ) (r : Record) (s : ℕ) where
  pub late-there : OpenAt size r (down_by k r s) → late_of k size r s ≡ Some (r.next - 1 - down_by k r s)
  unfolding late_of
  late-there o = simp (open-at size r (down_by k r s) o)

  pub late-not : (OpenAt size r (down_by k r s) → ⊥) → late_of k size r s ≡ None
  unfolding late_of
  late-not shut = go (open_at size r (down_by k r s)) refl
    where
      go : (b : Bool) → open_at size r (down_by k r s) ≡ b → cond b (Some (r.next - 1 - down_by k r s)) None ≡ None
      go true e = absurd (shut (at_open size r (down_by k r s) e))
      go false e = refl

-- it is open, and ends like s
module _ (k size : ℕ) (r : Record) (s c : ℕ) where
  pub late_is : size < 2 ^ k → open_at size r (r.next - 1 - c) ≡ true → c % 2 ^ k ≡ s % 2 ^ k → late_of k size r s ≡ Some c
  late_is small o ends =
      let a = at_open size r (r.next - 1 - c) o in
      let d : down_by k r s ≡ r.next - 1 - c = distance-under k s (r.next - 1) c (omega arith) (omega arith) ends in
      late-there k size r s (subst (OpenAt size r) (sym d) a) ∙ ap Some (omega arith)

  pub late-found : late_of k size r s ≡ Some c → (open_at size r (r.next - 1 - c) ≡ true) × (c % 2 ^ k ≡ s % 2 ^ k)
  unfolding late_of
  late-found = go (open_at size r (down_by k r s)) refl
    where
      go : (b : Bool) → open_at size r (down_by k r s) ≡ b → cond b (Some (r.next - 1 - down_by k r s)) None ≡ Some c
          → (open_at size r (r.next - 1 - c) ≡ true) × (c % 2 ^ k ≡ s % 2 ^ k)
      go true o e =
          let q : r.next - 1 - down_by k r s ≡ c = cc in
          let a = at_open size r (down_by k r s) o in
          (ap (open_at size r) (omega arith) ∙ o, distance-down k s (r.next - 1) c (omega arith))
      go false o e = never e

pub candidates : CandidatesHold
candidates k r s =
    record {
      forward = λ c. (
        (λ e. let t = forward-reached k r s c e in (t.0, reached-least k r s c t.1)),
        λ t. forward-is k false r s c t.0 (least-reached k r s c t.1),
      );
      forward-none = (
        (λ e c t. elim (le-or-lt exhausted c) [ inl h ↦ h | inr h ↦ never (sym e ∙ forward-is k false r s c h (least-reached k r s c t)) ]),
        λ f. forward-none k r s (f (up k r s) (reached-least k r s (up k r s) (up-reached k r s))),
      );
      late = λ size c small. (late-found k size r s c, λ t. late_is k size r s c small t.0 t.1);
    }

-- what the layers above use, for a last octet
pub forward-at : (wraps : Bool) (r : Record) (s c : ℕ) → s < 256 → forward_of 8 wraps r s ≡ Some c
    → (c < exhausted) × (wraps ≡ false → r.next ≤ c) × (c % 256 ≡ s)
forward-at wraps r s c h e =
    let f = forward-found 8 wraps r s c e in
    elim f.1 [
      | inl t ↦ (f.0, (λ w. t.from), omega (arith, t.ends))
      | inr t ↦ (f.0, (λ w. clash t.0 w), omega (arith, distance-ends 8 r.next s))
    ]

pub late-at : (r : Record) (size s c : ℕ) → s < 256 → late_of 8 size r s ≡ Some c → (c + 1 < r.next) × (r.next ≤ c + 1 + size) × (c % 256 ≡ s)
late-at r size s c h e =
    let t = late-found 8 size r s c e in
    let a = at_open size r (r.next - 1 - c) t.0 in
    (omega arith, omega arith, omega arith)
