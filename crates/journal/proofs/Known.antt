-- Kinds that are unknown, and what a record that stands there says of the octets.
use mathlib.Core.Path.{◌≡◌, refl, ap}
use mathlib.Core.Bool.{Bool, true, false, ◌&&◌}
use mathlib.Core.List.{List}
use mathlib.Core.Logic.{◌⊎◌, inl, inr, ⊎_elim}
use Prim.Native.Nat.{ℕ, zero, suc, ◌+◌, ◌<◌, ◌≤◌}
use native.Mathlib.Nat.{eq-or-lt_of_le}
use native.Mathlib.Omega.{arith}
use lib.ListN.{length, get_or, get_or-eq_default}
use borrow.Author.Tests.{le-leb, eq-eqb, eqb-true, leb-true}
use Rattle.journal.specs.Records.{Lengths, none, kinds, allows, is_allowed, most, size_at, well_formed}

-- what a match says of a number that is none of 1 to n
abbrev pub Other : ℕ → ℕ → Type 0
Other t zero = Unit {0}
Other t (suc n) = Other t n × (t ≡ suc n → ⊥)

pub other : (n t : ℕ) → Other t n → (t ≡ 0) ⊎ (n < t)
other zero zero o = inl refl
other zero (suc t) o = inr (omega arith)
other (suc n) t o =
    ⊎_elim
    (λ (e : t ≡ 0). inl e)
    (λ (h : n < t). ⊎_elim (λ (e : suc n ≡ t). absurd (let z : t ≡ suc n = omega arith in o.1 z)) (λ (g : suc n < t). inr g) (eq-or-lt_of_le h))
    (other n t o.0)

pub unknown : (t n : ℕ) → Other t 14 → is_allowed t n ≡ false
unfolding is_allowed
unknown t n o =
    ⊎_elim
    (λ (e : t ≡ 0). simp e)
    (λ (h : 14 < t). ap (λ (x : Lengths). allows x n) (get_or-eq_default kinds none h))
    (other 14 t o)

-- either way
pub by : {P : Type 0} (b : Bool) → (b ≡ true → P) → (b ≡ false → P) → P
by true f g = f refl
by false f g = g refl

pub both : (a b : Bool) → a && b ≡ true → (a ≡ true) × (b ≡ true)
both true b e = (refl, e)
both false b e = absurd (let z : ◌≡◌ {A = ℕ} 0 1 = cc in omega arith)

pub and-true : (a : Bool) → a && true ≡ a
and-true true = refl
and-true false = refl

-- what a record that stands there says of the octets
pub record Stands (l : List ℕ) : Type 0 where
  pub first : get_or l 0 0 ≡ 0x4E
  pub second : get_or l 1 0 ≡ 0x53
  pub allowed : is_allowed (get_or l 2 0) (size_at l) ≡ true
  pub small : size_at l ≤ most
  pub whole : 5 + size_at l ≤ length l

pub stands : (l : List ℕ) → well_formed l ≡ true → Stands l
unfolding well_formed
stands l e =
    let d = both _ _ e in
    let c = both _ _ d.0 in
    let b = both _ _ c.0 in
    let a = both _ _ b.0 in
    record {
      first = eqb-true _ _ a.0;
      second = eqb-true _ _ a.1;
      allowed = b.1;
      small = leb-true _ _ c.1;
      whole = leb-true _ _ d.1;
    }

pub formed : (l : List ℕ) → Stands l → well_formed l ≡ true
unfolding well_formed
formed l s = simp (eq-eqb _ _ s.first, eq-eqb _ _ s.second, s.allowed, le-leb _ _ s.small, le-leb _ _ s.whole)
