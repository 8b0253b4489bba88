-- MUL64 by a fixed number p adds up: it may be done by parts of its other factor, of four bits each.
-- Assumes nothing.
use Rattle.std.proofs.Common.{◌≡◌, ℕ, zero, suc, ◌+◌, ◌-◌, ◌*◌, ◌/◌, ◌%◌, ◌^◌, ◌<◌, ◌≤◌, Bool, true, false, cond, eqb, List, [], ◌∷◌, get_or, sym, refl, ap, ◌∙◌, ap₂, add-zero, mod-lt, mod-eq_of_lt, one-mul, pow-suc, div-add-mod', zero-add, div-le_self, arith, lit<, pow_pos, pow-add, le-ltb, lt-ltb}
use native.Mathlib.Nat.{div-div-eq-div-mul, mod-one, pow-succ'}
use lib.Arith.{bin_ind, mod-mul}
use lib.Pow.{pow-lt as two-pow-lt}
use lib.Bits.{bit_xor, differ, xor_step, xor_shr, xor_mod, xor_lt, xor_block, xor_comm, xor_self, xor_zero_r, xor_shifted}
use Rattle.aes.proofs.Tables.{table_at, same-table}
use Rattle.snow3g.specs.Words.{xor4}
use Rattle.snow3g.specs.Uia2.{mul64x, mul64x_pow, mul64_to, mul64}
use Rattle.snow3g.specs.Tables.{x4, multiples}

bit-assoc : (x y z : ℕ) → x < 2 → y < 2 → z < 2 → differ (bit_xor x y) z ≡ differ x (bit_xor y z)
bit-assoc zero zero z p q r = refl
bit-assoc zero (suc zero) zero p q r = refl
bit-assoc zero (suc zero) (suc zero) p q r = refl
bit-assoc zero (suc zero) (suc (suc z)) p q r = absurd (omega arith)
bit-assoc zero (suc (suc y)) z p q r = absurd (omega arith)
bit-assoc (suc zero) zero zero p q r = refl
bit-assoc (suc zero) zero (suc zero) p q r = refl
bit-assoc (suc zero) zero (suc (suc z)) p q r = absurd (omega arith)
bit-assoc (suc zero) (suc zero) zero p q r = refl
bit-assoc (suc zero) (suc zero) (suc zero) p q r = refl
bit-assoc (suc zero) (suc zero) (suc (suc z)) p q r = absurd (omega arith)
bit-assoc (suc zero) (suc (suc y)) z p q r = absurd (omega arith)
bit-assoc (suc (suc x)) y z p q r = absurd (omega arith)

pub xor_assoc : (a b c : ℕ) → bit_xor (bit_xor a b) c ≡ bit_xor a (bit_xor b c)
xor_assoc =
    bin_ind (λ (n : ℕ). (b c : ℕ) → bit_xor (bit_xor n b) c ≡ bit_xor n (bit_xor b c)) (λ b c. refl)
    (λ n ih b c.
    xor_step (bit_xor n b) c ∙
    ap₂ (λ (x y : ℕ). x * 2 + y)
    (ap (λ (x : ℕ). bit_xor x (c / 2)) (xor_shr n b 1) ∙ ih (b / 2) (c / 2) ∙ ap (bit_xor (n / 2)) (sym (xor_shr b c 1)))
    (ap (λ (x : ℕ). differ x (c % 2)) (xor_mod n b 1) ∙ bit-assoc (n % 2) (b % 2) (c % 2) (omega arith) (omega arith) (omega arith) ∙
    ap (differ (n % 2)) (sym (xor_mod b c 1))) ∙
    sym (xor_step n (bit_xor b c)))

medial : (a b c d : ℕ) → bit_xor (bit_xor a b) (bit_xor c d) ≡ bit_xor (bit_xor a c) (bit_xor b d)
medial a b c d =
    xor_assoc a b (bit_xor c d) ∙
    ap (bit_xor a) (sym (xor_assoc b c d) ∙ ap (λ (x : ℕ). bit_xor x d) (xor_comm b c) ∙ xor_assoc c b d) ∙
    sym (xor_assoc a c (bit_xor b d))

double-xor : (r s : ℕ) → bit_xor r s * 2 ≡ bit_xor (r * 2) (s * 2)
double-xor r s =
    let e = xor_block 1 r s 0 0 (lit< tt) (lit< tt) in
    sym (rw (add-zero (r * 2), add-zero (s * 2), add-zero (bit_xor r s * 2)) at e)

bit-xor : (t u : ℕ) → t < 2 → u < 2 → bit_xor t u * 27 ≡ bit_xor (t * 27) (u * 27)
bit-xor zero zero p q = refl
bit-xor zero (suc zero) p q = refl
bit-xor zero (suc (suc u)) p q = absurd (omega arith)
bit-xor (suc zero) zero p q = refl
bit-xor (suc zero) (suc zero) p q = refl
bit-xor (suc zero) (suc (suc u)) p q = absurd (omega arith)
bit-xor (suc (suc t)) u p q = absurd (omega arith)

parts : (t r : ℕ) → t < 2 → r < 2 ^ 63 → mul64x (t * 2 ^ 63 + r) 27 ≡ bit_xor (r * 2) (t * 27)
unfolding mul64x
parts zero r p q = rw (zero-add r, lt-ltb r (2 ^ 63) q, xor_zero_r (r * 2))
parts (suc zero) r p q =
    let e : 2 ^ 63 + r - 2 ^ 63 ≡ r = omega arith in
    let g : 2 ^ 63 ≤ 2 ^ 63 + r = omega arith in
    rw (le-ltb (2 ^ 63 + r) (2 ^ 63) g, e)
parts (suc (suc t)) r p q = absurd (omega arith)

pub x-at : (v : ℕ) → v < 2 ^ 64 → mul64x v 27 ≡ bit_xor (v % 2 ^ 63 * 2) (v / 2 ^ 63 * 27)
x-at v h =
    let t : v / 2 ^ 63 < 2 = omega arith in
    let r : v % 2 ^ 63 < 2 ^ 63 = mod-lt v (lit< tt) in
    ap (λ (x : ℕ). mul64x x 27) (sym (div-add-mod' v (2 ^ 63))) ∙ parts (v / 2 ^ 63) (v % 2 ^ 63) t r

x_lt : (v : ℕ) → v < 2 ^ 64 → mul64x v 27 < 2 ^ 64
x_lt v h =
    let a : v % 2 ^ 63 * 2 < 2 ^ 64 = omega arith in
    let b : v / 2 ^ 63 * 27 < 2 ^ 64 = omega arith in
    rw (x-at v h) (xor_lt 64 (v % 2 ^ 63 * 2) (v / 2 ^ 63 * 27) a b)

x-linear : (a b : ℕ) → a < 2 ^ 64 → b < 2 ^ 64 → mul64x (bit_xor a b) 27 ≡ bit_xor (mul64x a 27) (mul64x b 27)
x-linear a b ha hb =
    let t : a / 2 ^ 63 < 2 = omega arith in
    let u : b / 2 ^ 63 < 2 = omega arith in
    x-at (bit_xor a b) (xor_lt 64 a b ha hb) ∙
    ap₂ bit_xor
    (ap (λ (x : ℕ). x * 2) (xor_mod a b 63) ∙ double-xor (a % 2 ^ 63) (b % 2 ^ 63))
    (ap (λ (x : ℕ). x * 27) (xor_shr a b 63) ∙ bit-xor (a / 2 ^ 63) (b / 2 ^ 63) t u) ∙
    medial (a % 2 ^ 63 * 2) (b % 2 ^ 63 * 2) (a / 2 ^ 63 * 27) (b / 2 ^ 63 * 27) ∙
    ap₂ bit_xor (sym (x-at a ha)) (sym (x-at b hb))

x-small : (v : ℕ) → v < 2 ^ 63 → mul64x v 27 ≡ v * 2
unfolding mul64x
x-small v h = rw (lt-ltb v (2 ^ 63) h)

pow-lt : (v i : ℕ) → v < 2 ^ 64 → mul64x_pow v i 27 < 2 ^ 64
unfolding mul64x_pow
pow-lt v zero h = h
pow-lt v (suc i) h = x_lt (mul64x_pow v i 27) (pow-lt v i h)

pow-linear : (a b i : ℕ) → a < 2 ^ 64 → b < 2 ^ 64 → mul64x_pow (bit_xor a b) i 27 ≡ bit_xor (mul64x_pow a i 27) (mul64x_pow b i 27)
unfolding mul64x_pow
pow-linear a b zero ha hb = refl
pow-linear a b (suc i) ha hb =
    ap (λ (x : ℕ). mul64x x 27) (pow-linear a b i ha hb) ∙ x-linear (mul64x_pow a i 27) (mul64x_pow b i 27) (pow-lt a i ha) (pow-lt b i hb)

pow-x : (v i : ℕ) → mul64x_pow (mul64x v 27) i 27 ≡ mul64x (mul64x_pow v i 27) 27
unfolding mul64x_pow
pow-x v zero = refl
pow-x v (suc i) = ap (λ (x : ℕ). mul64x x 27) (pow-x v i)

module _ (p : ℕ) where
  to-lt : (v n : ℕ) → v < 2 ^ 64 → mul64_to v p 27 n < 2 ^ 64
  unfolding mul64_to
  to-lt v zero h = lit< tt
  to-lt v (suc n) h = go (eqb (p / 2 ^ n % 2) 1) (to-lt v n h)
    where
      go : (t : Bool) → mul64_to v p 27 n < 2 ^ 64 → cond t (bit_xor (mul64_to v p 27 n) (mul64x_pow v n 27)) (mul64_to v p 27 n) < 2 ^ 64
      go true q = xor_lt 64 (mul64_to v p 27 n) (mul64x_pow v n 27) q (pow-lt v n h)
      go false q = q

  to-linear : (a b n : ℕ) → a < 2 ^ 64 → b < 2 ^ 64 → mul64_to (bit_xor a b) p 27 n ≡ bit_xor (mul64_to a p 27 n) (mul64_to b p 27 n)
  unfolding mul64_to
  to-linear a b zero ha hb = refl
  to-linear a b (suc n) ha hb = go (eqb (p / 2 ^ n % 2) 1) (to-linear a b n ha hb)
    where
      go : (t : Bool) → mul64_to (bit_xor a b) p 27 n ≡ bit_xor (mul64_to a p 27 n) (mul64_to b p 27 n)
          → cond t (bit_xor (mul64_to (bit_xor a b) p 27 n) (mul64x_pow (bit_xor a b) n 27)) (mul64_to (bit_xor a b) p 27 n)
          ≡ bit_xor (cond t (bit_xor (mul64_to a p 27 n) (mul64x_pow a n 27)) (mul64_to a p 27 n))
          (cond t (bit_xor (mul64_to b p 27 n) (mul64x_pow b n 27)) (mul64_to b p 27 n))
      go true ih = ap₂ bit_xor ih (pow-linear a b n ha hb) ∙ medial (mul64_to a p 27 n) (mul64_to b p 27 n) (mul64x_pow a n 27) (mul64x_pow b n 27)
      go false ih = ih

  to-x : (v n : ℕ) → v < 2 ^ 64 → mul64_to (mul64x v 27) p 27 n ≡ mul64x (mul64_to v p 27 n) 27
  unfolding mul64_to
  to-x v zero h = sym (x-small 0 (lit< tt))
  to-x v (suc n) h = go (eqb (p / 2 ^ n % 2) 1) (to-x v n h)
    where
      go : (t : Bool) → mul64_to (mul64x v 27) p 27 n ≡ mul64x (mul64_to v p 27 n) 27
          → cond t (bit_xor (mul64_to (mul64x v 27) p 27 n) (mul64x_pow (mul64x v 27) n 27)) (mul64_to (mul64x v 27) p 27 n)
          ≡ mul64x (cond t (bit_xor (mul64_to v p 27 n) (mul64x_pow v n 27)) (mul64_to v p 27 n)) 27
      go true ih = ap₂ bit_xor ih (pow-x v n) ∙ sym (x-linear (mul64_to v p 27 n) (mul64x_pow v n 27) (to-lt v n h) (pow-lt v n h))
      go false ih = ih

  pub mul-lt : (v : ℕ) → v < 2 ^ 64 → mul64 v p 27 < 2 ^ 64
  unfolding mul64
  mul-lt v h = to-lt v 64 h

  pub mul-linear : (a b : ℕ) → a < 2 ^ 64 → b < 2 ^ 64 → mul64 (bit_xor a b) p 27 ≡ bit_xor (mul64 a p 27) (mul64 b p 27)
  unfolding mul64
  mul-linear a b ha hb = to-linear a b 64 ha hb

  pub mul-x : (v : ℕ) → v < 2 ^ 64 → mul64 (mul64x v 27) p 27 ≡ mul64x (mul64 v p 27) 27
  unfolding mul64
  mul-x v h = to-x v 64 h

  pub mul-zero : mul64 0 p 27 ≡ 0
  mul-zero = mul-linear 0 0 (lit< tt) (lit< tt) ∙ xor_self (mul64 0 p 27)

  pub mul-double : (v : ℕ) → v < 2 ^ 63 → mul64 (v * 2) p 27 ≡ mul64x (mul64 v p 27) 27
  mul-double v h = ap (λ (x : ℕ). mul64 x p 27) (sym (x-small v h)) ∙ mul-x v (omega arith)

pow-one : (i : ℕ) → i < 64 → mul64x_pow 1 i 27 ≡ 2 ^ i
unfolding mul64x_pow
pow-one zero h = refl
pow-one (suc i) h =
    let b : 2 ^ i < 2 ^ 63 = two-pow-lt {i = i} {j = 63} (omega arith) in
    ap (λ (v : ℕ). mul64x v 27) (pow-one i (omega arith)) ∙ x-small (2 ^ i) b ∙ sym (pow-suc 2 i)

-- once
abbrev x : ℕ → ℕ
x v = mul64x v 27

x4-linear : (a b : ℕ) → a < 2 ^ 64 → b < 2 ^ 64 → x4 (bit_xor a b) ≡ bit_xor (x4 a) (x4 b)
unfolding x4
x4-linear a b ha hb =
    let a1 = x_lt a ha in
    let b1 = x_lt b hb in
    let a2 = x_lt (x a) a1 in
    let b2 = x_lt (x b) b1 in
    let a3 = x_lt (x (x a)) a2 in
    let b3 = x_lt (x (x b)) b2 in
    ap x (ap x (ap x (x-linear a b ha hb) ∙ x-linear (x a) (x b) a1 b1) ∙ x-linear (x (x a)) (x (x b)) a2 b2) ∙
    x-linear (x (x (x a))) (x (x (x b))) a3 b3

-- what the four bits t that go out leave
abbrev pub reduced : ℕ → ℕ
reduced t = xor4 t (t * 2) (t * 8) (t * 16)

top : (t : ℕ) → t < 16 → x4 (t * 2 ^ 60) ≡ reduced t
unfolding x4 mul64x
top t h = same-table (λ n. x4 (n * 2 ^ 60)) reduced 16 t refl h

x4-small : (v : ℕ) → v < 2 ^ 60 → x4 v ≡ v * 16
unfolding x4
x4-small v h =
    ap x (ap x (ap x (x-small v (omega arith)) ∙ x-small (v * 2) (omega arith)) ∙ x-small (v * 2 * 2) (omega arith)) ∙
    x-small (v * 2 * 2 * 2) (omega arith) ∙
    omega arith

pub x4-at : (u : ℕ) → u < 2 ^ 64 → bit_xor (u % 2 ^ 60 * 16) (reduced (u / 2 ^ 60)) ≡ x4 u
x4-at u h =
    let t : u / 2 ^ 60 < 16 = omega arith in
    let r : u % 2 ^ 60 < 2 ^ 60 = mod-lt u (lit< tt) in
    let a : u / 2 ^ 60 * 2 ^ 60 < 2 ^ 64 = omega arith in
    let b : u % 2 ^ 60 < 2 ^ 64 = omega arith in
    sym
    (ap x4 (sym (div-add-mod' u (2 ^ 60)) ∙ sym (xor_shifted (u / 2 ^ 60) 60 (u % 2 ^ 60) r)) ∙
    x4-linear (u / 2 ^ 60 * 2 ^ 60) (u % 2 ^ 60) a b ∙
    ap₂ bit_xor (top (u / 2 ^ 60) t) (x4-small (u % 2 ^ 60) r) ∙
    xor_comm (reduced (u / 2 ^ 60)) (u % 2 ^ 60 * 16))

-- one part of four bits more
pub more-bits : (p w n : ℕ) → w < 2 ^ 60 → n < 16 → mul64 (w * 16 + n) p 27 ≡ bit_xor (x4 (mul64 w p 27)) (mul64 n p 27)
unfolding x4
more-bits p w n h k =
    let a : w * 16 < 2 ^ 64 = omega arith in
    let b : n < 2 ^ 64 = omega arith in
    let e : w * 16 ≡ w * 2 * 2 * 2 * 2 = omega arith in
    ap (λ (v : ℕ). mul64 v p 27) (sym (xor_shifted w 4 n k)) ∙
    mul-linear p (w * 16) n a b ∙
    ap (λ (v : ℕ). bit_xor v (mul64 n p 27))
    (ap (λ (v : ℕ). mul64 v p 27) e ∙
    mul-double p (w * 2 * 2 * 2) (omega arith) ∙
    ap x (mul-double p (w * 2 * 2) (omega arith) ∙ ap x (mul-double p (w * 2) (omega arith) ∙ ap x (mul-double p w (omega arith)))))

bit-sum : (b m s : ℕ) → b < 2 → bit_xor s m ≡ m + s → cond (eqb b 1) (bit_xor s m) s ≡ b * m + s
bit-sum zero m s h e = omega arith
bit-sum (suc zero) m s h e = e ∙ omega arith
bit-sum (suc (suc b)) m s h e = absurd (omega arith)

to_one : (p n : ℕ) → n ≤ 64 → mul64_to 1 p 27 n ≡ p % 2 ^ n
unfolding mul64_to
to_one p zero h = sym (mod-one p)
to_one p (suc n) h =
    let r : p % 2 ^ n < 2 ^ n = mod-lt p (pow_pos n) in
    let e : bit_xor (p % 2 ^ n) (2 ^ n) ≡ 2 ^ n + p % 2 ^ n =
    xor_comm (p % 2 ^ n) (2 ^ n) ∙ ap (λ (x : ℕ). bit_xor x (p % 2 ^ n)) (sym (one-mul (2 ^ n))) ∙
    xor_shifted 1 n (p % 2 ^ n) r ∙ ap (λ (x : ℕ). x + p % 2 ^ n) (one-mul (2 ^ n)) in
    let m : p % 2 ^ (suc n) ≡ p / 2 ^ n % 2 * 2 ^ n + p % 2 ^ n = ap (λ (x : ℕ). p % x) (pow-succ' 2 n) ∙ mod-mul p (lit< tt) (pow_pos n) in
    rw (to_one p n (omega arith), pow-one n (omega arith)) (bit-sum (p / 2 ^ n % 2) (2 ^ n) (p % 2 ^ n) (mod-lt (p / 2 ^ n) (lit< tt)) e ∙ sym m)

mul-one : (p : ℕ) → p < 2 ^ 64 → mul64 1 p 27 ≡ p
unfolding mul64
mul-one p h = to_one p 64 (omega arith) ∙ mod-eq_of_lt h

-- the sixteen products
module _ (p a b c : ℕ) (hp : p < 2 ^ 64) (ha : a ≡ mul64x p 27) (hb : b ≡ mul64x a 27) (hc : c ≡ mul64x b 27) where
  l1 : mul64 1 p 27 ≡ p
  l1 = mul-one p hp

  l2 : mul64 2 p 27 ≡ a
  l2 = mul-double p 1 (lit< tt) ∙ ap (λ (v : ℕ). mul64x v 27) l1 ∙ sym ha

  l4 : mul64 4 p 27 ≡ b
  l4 = mul-double p 2 (lit< tt) ∙ ap (λ (v : ℕ). mul64x v 27) l2 ∙ sym hb

  l8 : mul64 8 p 27 ≡ c
  l8 = mul-double p 4 (lit< tt) ∙ ap (λ (v : ℕ). mul64x v 27) l4 ∙ sym hc

  sum : (i j : ℕ) {u v : ℕ} → i < 2 ^ 64 → j < 2 ^ 64 → mul64 i p 27 ≡ u → mul64 j p 27 ≡ v → bit_xor u v ≡ mul64 (bit_xor i j) p 27
  sum i j h k q r = ap₂ bit_xor (sym q) (sym r) ∙ sym (mul-linear p i j h k)

  pub sixteen-products :
      (0 ∷ p ∷ a ∷ bit_xor a p ∷ b ∷ bit_xor b p ∷ bit_xor b a ∷ bit_xor (bit_xor b a) p ∷
      c ∷ bit_xor c p ∷ bit_xor c a ∷ bit_xor (bit_xor c a) p ∷
      bit_xor c b ∷ bit_xor (bit_xor c b) p ∷ bit_xor c (bit_xor b a) ∷ bit_xor (bit_xor c (bit_xor b a)) p ∷ []) ≡ multiples p
  unfolding multiples
  sixteen-products =
      let l3 = sum 2 1 (lit< tt) (lit< tt) l2 l1 in
      let l5 = sum 4 1 (lit< tt) (lit< tt) l4 l1 in
      let l6 = sum 4 2 (lit< tt) (lit< tt) l4 l2 in
      let l7 = sum 6 1 (lit< tt) (lit< tt) (sym l6) l1 in
      let l9 = sum 8 1 (lit< tt) (lit< tt) l8 l1 in
      let l10 = sum 8 2 (lit< tt) (lit< tt) l8 l2 in
      let l11 = sum 10 1 (lit< tt) (lit< tt) (sym l10) l1 in
      let l12 = sum 8 4 (lit< tt) (lit< tt) l8 l4 in
      let l13 = sum 12 1 (lit< tt) (lit< tt) (sym l12) l1 in
      let l14 = sum 8 6 (lit< tt) (lit< tt) l8 (sym l6) in
      let l15 = sum 14 1 (lit< tt) (lit< tt) (sym l14) l1 in
      let l0 = mul-zero p in
      λ i.
      sym l0 i ∷ sym l1 i ∷ sym l2 i ∷ l3 i ∷ sym l4 i ∷ l5 i ∷ l6 i ∷ l7 i ∷
      sym l8 i ∷ l9 i ∷ l10 i ∷ l11 i ∷ l12 i ∷ l13 i ∷ l14 i ∷ l15 i ∷ []

-- no part taken yet
pub no_bits : (p v : ℕ) → v < 2 ^ 64 → mul64 (v / 2 ^ 64) p 27 ≡ 0
no_bits p v h = let e : v / 2 ^ 64 ≡ 0 = omega arith in ap (λ (x : ℕ). mul64 x p 27) e ∙ mul-zero p

pub all-bits : (p v : ℕ) → mul64 (v / 2 ^ 0) p 27 ≡ mul64 v p 27
all-bits p v = let e : v / 1 ≡ v = omega arith in ap (λ (x : ℕ). mul64 x p 27) e

-- one turn, at the part n of v
pub turned-bits : (p v n s : ℕ) (t : List ℕ) → v < 2 ^ 64 → t ≡ multiples p → s ≡ mul64 (v / 2 ^ ((n + 1) * 4)) p 27
    → bit_xor (x4 s) (get_or t (v / 2 ^ (n * 4) % 16) 0) ≡ mul64 (v / 2 ^ (n * 4)) p 27
unfolding multiples
turned-bits p v n s t h e i =
    let f : (n + 1) * 4 ≡ n * 4 + 4 = omega arith in
    let d : v / 2 ^ ((n + 1) * 4) ≡ v / 2 ^ (n * 4) / 16 =
    ap (λ (x : ℕ). v / x) (ap (λ (x : ℕ). 2 ^ x) f ∙ pow-add 2 (n * 4) 4) ∙ sym (div-div-eq-div-mul v (2 ^ (n * 4)) 16) in
    let l : v / 2 ^ (n * 4) ≤ v = div-le_self v (2 ^ (n * 4)) in
    let k : v / 2 ^ (n * 4) % 16 < 16 = mod-lt (v / 2 ^ (n * 4)) (lit< tt) in
    let a : get_or t (v / 2 ^ (n * 4) % 16) 0 ≡ mul64 (v / 2 ^ (n * 4) % 16) p 27 = rw e (table_at (λ m. mul64 m p 27) 16 (v / 2 ^ (n * 4) % 16) k) in
    let w : v / 2 ^ (n * 4) / 16 < 2 ^ 60 = omega arith in
    ap₂ bit_xor (ap x4 (i ∙ ap (λ (x : ℕ). mul64 x p 27) d)) a ∙
    sym (more-bits p (v / 2 ^ (n * 4) / 16) (v / 2 ^ (n * 4) % 16) w k) ∙
    ap (λ (x : ℕ). mul64 x p 27) (div-add-mod' (v / 2 ^ (n * 4)) 16)

-- the same, where parts are counted from the left
pub turned-left : (p v k s : ℕ) (t : List ℕ) → k < 16 → v < 2 ^ 64 → t ≡ multiples p → s ≡ mul64 (v / 2 ^ (64 - k * 4)) p 27
    → bit_xor (x4 s) (get_or t (v / 2 ^ (60 - k * 4) % 16) 0) ≡ mul64 (v / 2 ^ (64 - (k + 1) * 4)) p 27
turned-left p v k s t l h e i =
    let a : 64 - k * 4 ≡ (15 - k + 1) * 4 = omega arith in
    let b : 60 - k * 4 ≡ (15 - k) * 4 = omega arith in
    let d : (15 - k) * 4 ≡ 64 - (k + 1) * 4 = omega arith in
    ap (λ n. bit_xor (x4 s) (get_or t (v / 2 ^ n % 16) 0)) b ∙
    turned-bits p v (15 - k) s t h e (i ∙ ap (λ n. mul64 (v / 2 ^ n) p 27) a) ∙
    ap (λ n. mul64 (v / 2 ^ n) p 27) d
