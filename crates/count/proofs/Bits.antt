-- Laws of single bits.
use Prim.Native.Nat.{ℕ, suc, ◌+◌, ◌-◌, ◌*◌, ◌/◌, ◌%◌, ◌^◌, ◌≤◌, ◌<◌}
use mathlib.Core.Path.{◌≡◌, sym, ap, ◌∙◌}
use mathlib.Core.Bool.{Bool, true, false, cond}
use mathlib.Core.Logic.{◌⊎◌, ⊎_elim}
use native.Mathlib.Nat.{mod-lt, zero-div, div_self, div-eq_of_lt}
use native.Mathlib.Omega.{arith}
use lib.Dec.{eqb}
use lib.Pow.{pow_pos, pow-lt, field, mod-mod-pow, shr-shr, high, low, ones_split, ones_lt}
use lib.Bits.{bit_or, or_shr, or_mod, or_zero_r}
use borrow.Author.Tests.{ne_eqb}
use Rattle.count.specs.Rule.{bit, former_highest}
use Rattle.count.proofs.Words.{ones_above}

-- of the low bits of a number
pub bit-mod : (x : ℕ) {k w : ℕ} → k < w → bit (x % 2 ^ w) k ≡ bit x k
unfolding bit
bit-mod x {k} {w} h =
    let e : w ≡ w - k - 1 + 1 + k = omega arith in
    rw (e, field x (w - k - 1 + 1) k) (mod-mod-pow (x / 2 ^ k) (w - k - 1) 1)

-- of b moved m places up above t
module _ (b m : ℕ) {t : ℕ} (h : t < 2 ^ m) where
  pub bit_high : (i : ℕ) → bit (b * 2 ^ m + t) (m + i) ≡ bit b i
  unfolding bit
  bit_high i = ap (λ (x : ℕ). x % 2) (sym (shr-shr (b * 2 ^ m + t) m i) ∙ ap (λ (x : ℕ). x / 2 ^ i) (high b m h))

  pub bit-low : {k : ℕ} → k < m → bit (b * 2 ^ m + t) k ≡ bit t k
  bit-low {k} l = sym (bit-mod (b * 2 ^ m + t) l) ∙ ap (λ (x : ℕ). bit x k) (low b m h)

pub bit-zero : (k : ℕ) → bit 0 k ≡ 0
unfolding bit
bit-zero k = ap (λ (x : ℕ). x % 2) (zero-div (2 ^ k))

-- of a power
bit-pow-same : (k : ℕ) → bit (2 ^ k) k ≡ 1
unfolding bit
bit-pow-same k = ap (λ (x : ℕ). x % 2) (div_self (pow_pos k))

bit-pow-below : {j k : ℕ} → k < j → bit (2 ^ j) k ≡ 0
bit-pow-below {j} {k} h =
    let e : 2 ^ j ≡ 1 * 2 ^ j + 0 = omega arith in
    rw e (bit-low 1 j (pow_pos j) h ∙ bit-zero k)

bit-pow-above : {j k : ℕ} → j < k → bit (2 ^ j) k ≡ 0
unfolding bit
bit-pow-above h = ap (λ (x : ℕ). x % 2) (div-eq_of_lt (pow-lt h))

-- of b with bit j set
module _ (b j : ℕ) where
  bit-or : (k : ℕ) → bit (bit_or b (2 ^ j)) k ≡ bit_or (bit b k) (bit (2 ^ j) k)
  unfolding bit
  bit-or k = ap (λ (x : ℕ). x % 2) (or_shr b (2 ^ j) k) ∙ or_mod (b / 2 ^ k) (2 ^ j / 2 ^ k) 1

  pub bit-set-same : bit b j ≡ 0 → bit (bit_or b (2 ^ j)) j ≡ 1
  bit-set-same clear = rw (bit-or, clear, bit-pow-same)

  pub bit-set-other : (k : ℕ) → (k < j) ⊎ (j < k) → bit (bit_or b (2 ^ j)) k ≡ bit b k
  bit-set-other k h = rw (bit-or, ⊎_elim bit-pow-below bit-pow-above h) (or_zero_r (bit b k))

-- of the former highest COUNT's mark
pub former_lt : (n m : ℕ) → 0 < m → former_highest n m < 2 ^ m
unfolding former_highest
former_lt n m h = go (eqb n 0)
  where
    go : (b : Bool) → cond b 0 (2 ^ (m - 1)) < 2 ^ m
    go true = pow_pos m
    go false = pow-lt (omega arith)

pub former-clear : (n m k : ℕ) → k < m - 1 → bit (former_highest n m) k ≡ 0
unfolding former_highest
former-clear n m k h = go (eqb n 0)
  where
    go : (b : Bool) → bit (cond b 0 (2 ^ (m - 1))) k ≡ 0
    go true = bit-zero k
    go false = bit-pow-below h

pub former-set : (n m : ℕ) → 0 < n → bit (former_highest n m) (m - 1) ≡ 1
unfolding former_highest
former-set n m h = simp (ne_eqb n 0 (λ e. omega arith)) (bit-pow-same (m - 1))

-- of ones
pub ones_bit : {j i : ℕ} → i < j → bit (2 ^ j - 1) i ≡ 1
unfolding bit
ones_bit {j} {i} h =
    let e : j ≡ suc (j - i - 1) + i = omega arith in
    rw (e, ones_split (suc (j - i - 1)) i, high (2 ^ suc (j - i - 1) - 1) i (ones_lt i)) (omega (arith, pow_pos (j - i - 1)))

-- of kept bits below ones
module _ (b both new : ℕ) (le : both ≤ new) where
  wider : b % 2 ^ both + (2 ^ new - 2 ^ both) ≡ (2 ^ (new - both) - 1) * 2 ^ both + b % 2 ^ both
  wider = omega (arith, ones_above both new le)

  pub bit_kept : {k : ℕ} → k < both → bit (b % 2 ^ both + (2 ^ new - 2 ^ both)) k ≡ bit b k
  bit_kept h = rw wider (bit-low (2 ^ (new - both) - 1) both (mod-lt b (pow_pos both)) h ∙ bit-mod b h)

  pub bit-new : {k : ℕ} → both ≤ k → k < new → bit (b % 2 ^ both + (2 ^ new - 2 ^ both)) k ≡ 1
  bit-new {k} h l =
      let e : k ≡ both + (k - both) = omega arith in
      rw (wider, e) (bit_high (2 ^ (new - both) - 1) both (mod-lt b (pow_pos both)) (k - both) ∙ ones_bit (omega arith))
