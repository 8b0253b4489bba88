-- Laws of the distance between two numbers modulo a power of two.
use Prim.Native.Nat.{ℕ, ◌+◌, ◌-◌, ◌/◌, ◌%◌, ◌^◌, ◌≤◌, ◌<◌}
use mathlib.Core.Path.{◌≡◌, sym, ap, ◌∙◌}
use mathlib.Core.Logic.{◌⊎◌, inl, inr}
use native.Mathlib.Nat.{mod-lt, div-add-mod', mod-add-mod, add-mod-mod, add-mod_right, mul-le-mul_right}
use native.Mathlib.Decide.{dec_le}
use native.Mathlib.Omega.{arith}
use lib.Pow.{pow_pos}
use Rattle.count.specs.Rule.{distance}
use Rattle.count.proofs.Words.{low_of_low}

pub le-or-lt : (a b : ℕ) → (a ≤ b) ⊎ (b < a)
le-or-lt a b = elim (dec_le a b) [ yes h ↦ inl h | no h ↦ inr (omega arith) ]

-- two numbers less than m apart that are alike modulo m are equal
pub residue : (m a b : ℕ) → a % m ≡ b % m → a < b + m → b < a + m → a ≡ b
residue m a b e l h = elim (le-or-lt a b) [ inl q ↦ rising a b e q h | inr q ↦ sym (rising b a (sym e) (omega arith) l) ]
  where
    rising : (a b : ℕ) → a % m ≡ b % m → a ≤ b → b < a + m → a ≡ b
    rising a b e l h =
        elim (le-or-lt (b / m) (a / m)) [
          | inl q ↦ omega (arith, div-add-mod' a m, div-add-mod' b m, mul-le-mul_right m q)
          | inr q ↦ absurd (omega (arith, div-add-mod' a m, div-add-mod' b m, mul-le-mul_right m q))
        ]

module _ (k a b : ℕ) where
  abbrev m : ℕ
  m = 2 ^ k

  pub distance-lt : distance k a b < 2 ^ k
  unfolding distance
  distance-lt = mod-lt (b + (m - a % m)) (pow_pos k)

  pub distance-ends : (a + distance k a b) % 2 ^ k ≡ b % 2 ^ k
  unfolding distance
  distance-ends =
      let l : a % m < m = mod-lt a (pow_pos k) in
      let e : a % m + (b + (m - a % m)) ≡ b + m = omega arith in
      add-mod-mod a (b + (m - a % m)) m ∙ sym (mod-add-mod a m (b + (m - a % m))) ∙ ap (λ (x : ℕ). x % m) e ∙ add-mod_right b m

  -- c lies so far below b exactly if it ends like a
  pub distance-down : (c : ℕ) → c + distance k a b ≡ b → c % 2 ^ k ≡ a % 2 ^ k
  distance-down c e =
      let d = distance k a b in
      let f : (c % m + d) % m ≡ (a % m + d) % m = mod-add-mod c m d ∙ ap (λ (x : ℕ). x % m) e ∙ sym (mod-add-mod a m d ∙ distance-ends) in
      let x = mod-lt c (pow_pos k) in
      let y = mod-lt a (pow_pos k) in
      omega (arith, residue m (c % m + d) (a % m + d) f (omega arith) (omega arith))

  pub distance-under : (c : ℕ) → c ≤ b → b < c + 2 ^ k → c % 2 ^ k ≡ a % 2 ^ k → distance k a b ≡ b - c
  distance-under c l h e =
      let d = distance k a b in
      let f : (c + d) % m ≡ b % m = sym (mod-add-mod c m d) ∙ ap (λ (x : ℕ). (x + d) % m) e ∙ mod-add-mod a m d ∙ distance-ends in
      omega (arith, residue m (c + d) b f (omega (arith, distance-lt)) (omega arith))

  -- what leads from a to a number that ends like b is that far
  pub distance-is : (x : ℕ) → (a + x) % 2 ^ k ≡ b % 2 ^ k → x % 2 ^ k ≡ distance k a b
  distance-is x e =
      let f : (x % m + a) % m ≡ (distance k a b + a) % m =
      mod-add-mod x m a ∙ ap (λ (y : ℕ). y % m) (omega arith) ∙ e ∙ sym distance-ends ∙ ap (λ (y : ℕ). y % m) (omega arith)
      in
      let l = mod-lt x (pow_pos k) in
      omega (arith, residue m (x % m + a) (distance k a b + a) f (omega (arith, l, distance-lt)) (omega (arith, l, distance-lt)))

  -- a word's difference that wraps
  pub distance-wraps : k ≤ 32 → a ≤ 2 ^ 32 → (b + (2 ^ 32 - a)) % 2 ^ 32 % 2 ^ k ≡ distance k a b
  distance-wraps small fits =
      low_of_low (b + (2 ^ 32 - a)) small
      ∙ distance-is (b + (2 ^ 32 - a)) (
      ap (λ (y : ℕ). y % m) (omega arith)
      ∙ sym (low_of_low (b + 2 ^ 32) small)
      ∙ ap (λ (y : ℕ). y % m) (add-mod_right b (2 ^ 32))
      ∙ low_of_low b small
      )
