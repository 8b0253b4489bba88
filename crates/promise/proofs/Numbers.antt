-- Which numbers a list of refusals can give.
use Prim.Native.Nat.{ℕ, ◌+◌, ◌-◌}
use mathlib.Core.Path.{◌≡◌, refl}
use mathlib.Core.Bool.{Bool, true, false, cond, ◌||◌, ◌&&◌}
use mathlib.Core.Logic.{◌⊎◌, inl, inr}
use mathlib.Core.List.{List, [], ◌∷◌}
use native.Mathlib.Omega.{arith}
use lib.Dec.{eqb, ltb, leb}
use borrow.Author.Tests.{eqb-true, eq-eqb}
use Rattle.count.specs.Rule.{exhausted}
use Rattle.count.specs.Run.{In}
use Rattle.refusals.specs.Order.{◌when◌, first}
use Rattle.nas_core.specs.declared.Core.{Core}
use Rattle.nas_core.specs.Refusals.{limit, unbuilt, core_fault, send_refusals, hand_refusals}

-- a number stands in a list, by computing
abbrev pub is_in : ℕ → List ℕ → Bool
is_in n [] = false
is_in n (a ∷ l) = eqb n a || is_in n l

or-either : (n a : ℕ) (b : Bool) → eqb n a || b ≡ true → (n ≡ a) ⊎ (b ≡ true)
or-either n a b e = go (eqb n a) refl e
  where
    go : (t : Bool) → eqb n a ≡ t → t || b ≡ true → (n ≡ a) ⊎ (b ≡ true)
    go true q h = inl (eqb-true n a q)
    go false q h = inr h

pub or_right : (t b : Bool) → b ≡ true → t || b ≡ true
or_right true b e = refl
or_right false b e = e

pub there : (n : ℕ) (l : List ℕ) → is_in n l ≡ true → In n l
there n [] e = let z : ◌≡◌ {A = ℕ} 0 1 = cc in absurd (omega arith)
there n (a ∷ l) e = elim (or-either n a (is_in n l) e) [ inl q ↦ inl q | inr h ↦ inr (there n l h) ]

is-in : (n : ℕ) (l : List ℕ) → In n l → is_in n l ≡ true
is-in n (a ∷ l) (inl e) = simp (eq-eqb n a e)
is-in n (a ∷ l) (inr h) = or_right (eqb n a) (is_in n l) (is-in n l h)
is-in n [] x' = elim x' [ ]

pub not_there : (n : ℕ) (l : List ℕ) → is_in n l ≡ false → In n l → ⊥
not_there n l e h = let z : ◌≡◌ {A = ℕ} 0 1 = cc (is-in n l h) in omega arith

-- 0, or one of some numbers
abbrev pub Among : List ℕ → ℕ → Type 0
Among s n = (n ≡ 0) ⊎ In n s

infixr 20 ◌&◌
pub data Each (s : List ℕ) : List ℕ → Type 0 where
  none : Each s []
  ◌&◌ : {n : ℕ} {l : List ℕ} → Among s n → Each s l → Each s (n ∷ l)

either : (s : List ℕ) (n m : ℕ) (t : Bool) → Among s n → Among s m → Among s (cond t m n)
either s n m true a b = b
either s n m false a b = a

pub first-among : (s l : List ℕ) → Each s l → Among s (first l)
first-among s [] h = inl refl
first-among s (n ∷ l) (a & h) = either s n (first l) (eqb n 0) a (first-among s l h)

module _ (s : List ℕ) where
  pub may : (n : ℕ) (t : Bool) → is_in n s ≡ true → Among s (n when t)
  may n true e = inr (there n s e)
  may n false e = inl refl

  pub core-among : (x : Core) → is_in 13 s ≡ true → is_in 14 s ≡ true → Among s (core_fault x)
  unfolding core_fault
  core-among x a b =
      first-among s (13 when unbuilt x.integrity x.ciphering ∷ 14 when (ltb 64 x.size) ∷ []) (
      may 13 (unbuilt x.integrity x.ciphering) a & may 14 (ltb 64 x.size) b & none)

  pub send-each : (header n room next : ℕ) → is_in 4 s ≡ true → is_in 5 s ≡ true → is_in 6 s ≡ true → Each s (send_refusals header n room next)
  send-each header n room next a b c = (may 4 (ltb limit n) a & may 5 (ltb room (header + n)) b & may 6 (leb exhausted next) c & none)

  pub hand-each : (header n room : ℕ) → is_in 4 s ≡ true → is_in 5 s ≡ true → Each s (hand_refusals header n room)
  hand-each header n room a b = (may 4 (ltb limit (n - header)) a & may 5 (ltb room (n - header)) b & none)

-- one list's numbers are all in another
abbrev pub subset : List ℕ → List ℕ → Bool
subset [] s = true
subset (a ∷ l) s = is_in a s && subset l s

and_parts : (a b : Bool) → a && b ≡ true → (a ≡ true) × (b ≡ true)
and_parts true b e = (refl, e)
and_parts false b e = (e, (cc))

pub widen : (l s : List ℕ) → subset l s ≡ true → (n : ℕ) → In n l → In n s
widen (a ∷ l) s e n (inl q) = rw q (there a s (and_parts (is_in a s) (subset l s) e).0)
widen (a ∷ l) s e n (inr h) = widen l s (and_parts (is_in a s) (subset l s) e).1 n h
widen [] s e n x'' = elim x'' [ ]
