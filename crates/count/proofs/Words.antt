-- What the shifts and masks of 64-bit words come to, as numbers.
use Prim.Native.Nat.{ℕ, ◌+◌, ◌-◌, ◌*◌, ◌/◌, ◌%◌, ◌^◌, ◌≤◌, ◌<◌}
use mathlib.Core.Path.{◌≡◌, ap, ◌∙◌}
use native.Mathlib.Nat.{div-eq_of_lt, lt_of_lt_of_le, mod-lt, mul-mod_left, mul_assoc}
use native.Mathlib.Omega.{arith}
use lib.Pow.{pow_mono, pow_pos, pow-add, mod-mod-pow, high, high_ones, ones_split, ones_lt}
use lib.Bits.{bit_and, bit_or, and_mask, or_mod, or_shifted, or_shifted_r}

-- a multiple of a larger power has no low bits
pub no-low : (b : ℕ) {w k : ℕ} → w ≤ k → b * 2 ^ k % 2 ^ w ≡ 0
no-low b {w} {k} h =
    let e : k ≡ k - w + w = omega arith in
    rw (e, pow-add, ← mul_assoc) (mul-mod_left (b * 2 ^ (k - w)) (2 ^ w))

-- a word moved out of its digits
pub moved_out : (b k : ℕ) → 64 ≤ k → b * 2 ^ k % 2 ^ 64 ≡ 0
moved_out b k h = no-low b h

-- low bits of low bits
pub low_of_low : (x : ℕ) {w k : ℕ} → w ≤ k → x % 2 ^ k % 2 ^ w ≡ x % 2 ^ w
low_of_low x {w} {k} h =
    let e : k ≡ k - w + w = omega arith in
    rw e (mod-mod-pow x (k - w) w)

-- bits moved up with a mark below them, cut to a size
pub or_moved : (b y m w : ℕ) → y < 2 ^ m → w ≤ 64
    → bit_and (bit_or (b * 2 ^ m % 2 ^ 64) (y % 2 ^ 64)) (2 ^ w - 1) ≡ (b * 2 ^ m + y) % 2 ^ w
or_moved b y m w h l =
    rw (and_mask, or_mod, low_of_low (b * 2 ^ m) l, low_of_low y l, ← or_mod, or_shifted b m y h)

pub ones_le : (both new : ℕ) → both ≤ new → 2 ^ both - 1 ≤ 2 ^ new - 1
ones_le both new h =
    let l : 2 ^ both ≤ 2 ^ new = pow_mono h in
    omega arith

-- set bits from one size to another
pub ones_above : (both new : ℕ) → both ≤ new → 2 ^ new - 2 ^ both ≡ (2 ^ (new - both) - 1) * 2 ^ both
ones_above both new h =
    let e : new ≡ new - both + both = omega arith in
    ap (λ (n : ℕ). 2 ^ n - 2 ^ both) e ∙ high_ones (new - both) both

-- kept bits below them
pub or_sized : (b both new : ℕ) → both ≤ new
    → bit_or (bit_and b (2 ^ both - 1)) (2 ^ new - 1 - (2 ^ both - 1)) ≡ b % 2 ^ both + (2 ^ new - 2 ^ both)
or_sized b both new h =
    let f = ones_above both new h in
    let g : 2 ^ new - 1 - (2 ^ both - 1) ≡ (2 ^ (new - both) - 1) * 2 ^ both = omega (arith, pow_pos both) in
    rw (and_mask, g) (or_shifted_r (2 ^ (new - both) - 1) both (b % 2 ^ both) (mod-lt b (pow_pos both)) ∙ omega arith)

-- ones moved down
pub ones_down : (k : ℕ) → k ≤ 64 → (2 ^ 64 - 1) / 2 ^ (64 - k) ≡ 2 ^ k - 1
ones_down k h =
    let e : 64 ≡ k + (64 - k) = omega arith in
    rw (ap (λ (n : ℕ). 2 ^ n - 1) e) (rw (ones_split k (64 - k)) (high (2 ^ k - 1) (64 - k) (ones_lt (64 - k))))

-- a word has no digits past its own
pub none_past : (b k : ℕ) → b < 2 ^ 64 → 64 ≤ k → b / 2 ^ k ≡ 0
none_past b k h l = div-eq_of_lt (lt_of_lt_of_le h (pow_mono l))
