-- Laws for the code: eight bits of the message at a time, and the end.
-- Assumes nothing.
use Rattle.std.proofs.Common.{◌≡◌, ℕ, zero, suc, ◌+◌, ◌-◌, ◌*◌, ◌/◌, ◌%◌, ◌^◌, ◌<◌, ◌≤◌, List, length, get_or, take, drop, length-take, length-drop, get_or-take, get_or-drop, sym, refl, ap, ◌∙◌, ap₂, add-zero, add-suc, mod-lt, mod-eq_of_lt, div-one, add-one, arith, lit<, lit≤, shr-shr, eq-eqb, ne_eqb}
use native.Mathlib.Decide.{ℕ_discrete}
use lib.Bits.{bit_xor, xor_lt}
use Rattle.streams.specs.Stream.{after, words}
use Rattle.streams.proofs.Words.{words-at}
use Rattle.zuc.specs.declared.State.{State}
use Rattle.zuc.specs.declared.Window.{Window}
use Rattle.zuc.specs.Nonlinear.{w, x0, x3}
use Rattle.zuc.specs.Keystream.{work, word}
use Rattle.zuc.specs.Integrity.{bit_at, word_at, hash, word_count, code_of}
use Rattle.zuc.specs.Windows.{window_at, pair, last_word, some_bits, hash_part}
use Rattle.zuc.proofs.Walk.{moved_by, windows}
use Rattle.zuc.proofs.Strings.{both, bits-high, word-at}

-- a word of the key stream is one of 32 bits
pub word_lt : (x : State) → word x < 2 ^ 32
unfolding word w x3
word_lt x = xor_lt 32 (w x) (x3 x.cells) (mod-lt (bit_xor (x0 x.cells) x.r1 + x.r2) (lit< tt)) (omega arith)

pub words-lt : (n : ℕ) (x : State) (i : ℕ) → get_or (words work word n x) i 0 < 2 ^ 32
unfolding words
words-lt zero x i = lit< tt
words-lt (suc n) x zero = word_lt x
words-lt (suc n) x (suc i) = words-lt n (work x) i

module _ (zs m : List ℕ) where
  -- bit r of octet q
  one_bit : (q r j : ℕ) → j ≡ q * 8 + r → r < 8 → get_or zs (q / 4 + 1) 0 < 2 ^ 32
      → get_or m q 0 / 2 ^ (7 - r) % 2 * (both zs (q / 4) / 2 ^ (24 - q % 4 * 8) / 2 ^ (8 - r) % 2 ^ 32) ≡ bit_at 8 m j * word_at zs j
  unfolding bit_at
  one_bit q r j e l h =
      let d : j / 8 ≡ q = omega arith in
      let s : 8 - (j % 8 + 1) ≡ 7 - r = omega arith in
      let a : j / 32 ≡ q / 4 = omega arith in
      let b : 32 - j % 32 ≡ 24 - q % 4 * 8 + (8 - r) = omega arith in
      let k : get_or zs (j / 32 + 1) 0 < 2 ^ 32 = rw a h in
      sym
      (ap₂ ◌*◌ (rw (d, s))
      (word-at zs j k ∙
      ap₂ (λ (x y : ℕ). both zs x / 2 ^ y % 2 ^ 32) a b ∙
      ap (λ (x : ℕ). x % 2 ^ 32) (sym (shr-shr (both zs (q / 4)) (24 - q % 4 * 8) (8 - r)))))

  some : (q : ℕ) → get_or zs (q / 4 + 1) 0 < 2 ^ 32 → (n : ℕ) → n ≤ 8
      → some_bits (hash zs m (q * 8)) (both zs (q / 4) / 2 ^ (24 - q % 4 * 8)) (get_or m q 0) n ≡ hash zs m (q * 8 + n)
  unfolding some_bits hash
  some q h zero p = rw (add-zero (q * 8))
  some q h (suc n) p = rw (add-suc (q * 8) n) (ap₂ bit_xor (some q h n (omega arith)) (one_bit q n (q * 8 + n) refl (omega arith) h))

-- T after i octets, from the windows
unfoldable pub hash_by : Window → List ℕ → ℕ → ℕ
hash_by v m zero = 0
hash_by v m (suc i) = some_bits (hash_by v m i) (pair (moved_by (i / 4) v) / 2 ^ (24 - i % 4 * 8)) (get_or m i 0) 8

-- n octets of a word
hash-part : (v₀ : Window) (m part : List ℕ) (t : ℕ) (v : Window) (a : ℕ) → ((j : ℕ) → j < length part → get_or part j 0 ≡ get_or m (a * 4 + j) 0)
    → t ≡ hash_by v₀ m (a * 4) → v ≡ moved_by a v₀ → (n : ℕ) → n ≤ 4 → n ≤ length part → hash_part t v part n ≡ hash_by v₀ m (a * 4 + n)
unfolding hash_part hash_by
hash-part v₀ m part t v a k e f zero p q = rw (add-zero (a * 4)) e
hash-part v₀ m part t v a k e f (suc n) p q =
    let d : (a * 4 + n) / 4 ≡ a = omega arith in
    let r : (a * 4 + n) % 4 ≡ n = omega arith in
    let ih : hash_part t v part n ≡ hash_by v₀ m (a * 4 + n) = hash-part v₀ m part t v a k e f n (omega arith) (omega arith) in
    rw (add-suc (a * 4) n, d, r, ih, f, k n (omega arith))

pub hash-octets : (v₀ : Window) (m : List ℕ) (t : ℕ) (v : Window) (a : ℕ) → t ≡ hash_by v₀ m (a * 4) → v ≡ moved_by a v₀ → (k : ℕ) → k ≤ 4 → a * 4 + k ≤ length m
    → hash_part t v (take k (drop (a * 4) m)) (length (take k (drop (a * 4) m))) ≡ hash_by v₀ m (a * 4 + k)
hash-octets v₀ m t v a e f k p q =
    let part = take k (drop (a * 4) m) in
    let h : length part ≡ k = simp (length-take, length-drop) (omega arith) in
    ap (hash_part t v part) h ∙
    hash-part v₀ m part t v a (λ j l. get_or-take k (drop (a * 4) m) j 0 (omega (arith, h)) ∙ get_or-drop (a * 4) m j 0) e f k p (omega (arith, h))

module _ (x : State) (n : ℕ) where
  pair-at : (q : ℕ) → suc q < n → pair (moved_by q (window_at x 0)) ≡ both (words work word n x) q
  unfolding pair window_at
  pair-at q l =
      rw (windows x q, add-one q)
      (ap₂ (λ (a b : ℕ). a * 2 ^ 32 + b) (sym (words-at work word n x q (omega arith))) (sym (words-at work word n x (suc q) l)))

  hash-words : (m : List ℕ) (i : ℕ) → i ≤ (n - 2) * 4 → hash_by (window_at x 0) m i ≡ hash (words work word n x) m (i * 8)
  unfolding hash_by hash
  hash-words m zero l = refl
  hash-words m (suc i) l =
      let k : suc (i / 4) < n = omega arith in
      let e : i * 8 + 8 ≡ suc i * 8 = omega arith in
      ap₂ (λ (t y : ℕ). some_bits t (y / 2 ^ (24 - i % 4 * 8)) (get_or m i 0) 8) (hash-words m i (omega arith)) (pair-at (i / 4) k) ∙
      some (words work word n x) m i (words-lt n x (i / 4 + 1)) 8 (lit≤ tt) ∙
      ap (hash (words work word n x) m) e

-- the words that are ⊕-ed at the end
here : (x : State) (n k : ℕ) → suc (k / 4) < n
    → pair (moved_by (k / 4) (window_at x 0)) / 2 ^ (32 - k % 4 * 8) % 2 ^ 32 ≡ word_at (words work word n x) (k * 8)
here x n k l =
    let a : k * 8 / 32 ≡ k / 4 = omega arith in
    let b : 32 - k * 8 % 32 ≡ 32 - k % 4 * 8 = omega arith in
    ap (λ (y : ℕ). y / 2 ^ (32 - k % 4 * 8) % 2 ^ 32) (pair-at x n (k / 4) l) ∙
    sym (word-at (words work word n x) (k * 8) (words-lt n x (k * 8 / 32 + 1)) ∙ ap₂ (λ (q e : ℕ). both (words work word n x) q / 2 ^ e % 2 ^ 32) a b)

whole : (x : State) (n a : ℕ) → a < n → word_at (words work word n x) (32 * a) ≡ word (after work a x)
whole x n a l =
    let zs = words work word n x in
    let d : 32 * a / 32 ≡ a = omega arith in
    let r : 32 - 32 * a % 32 ≡ 32 + 0 = omega arith in
    word-at zs (32 * a) (words-lt n x (32 * a / 32 + 1)) ∙
    ap₂ (λ (q e : ℕ). both zs q / 2 ^ e % 2 ^ 32) d r ∙
    ap (λ (y : ℕ). y % 2 ^ 32) (bits-high (get_or zs a 0) (get_or zs (a + 1) 0) 0 (words-lt n x (a + 1)) ∙ div-one (get_or zs a 0)) ∙
    mod-eq_of_lt (words-lt n x a) ∙
    words-at work word n x a l

last : (x : State) (m : List ℕ) → last_word (moved_by (length m / 4) (window_at x 0)) (length m) ≡ word (after work (word_count (length m * 8) - 1) x)
unfolding last_word window_at
last x m = rw (windows x (length m / 4)) (go (ℕ_discrete (length m % 4) 0))
  where
    go : Dec (length m % 4 ≡ 0) → last_word (window_at x (length m / 4)) (length m) ≡ word (after work (word_count (length m * 8) - 1) x)
    go (yes z) = let k : word_count (length m * 8) - 1 ≡ suc (length m / 4) = omega arith in rw (eq-eqb (length m % 4) 0 z, k)
    go (no z) = let k : word_count (length m * 8) - 1 ≡ suc (suc (length m / 4)) = omega arith in rw (ne_eqb (length m % 4) 0 z, k)

pub code-end : (x : State) (m : List ℕ) (v₀ : Window) → v₀ ≡ window_at x 0 → (a t : ℕ) (v : Window) → a ≡ length m / 4
    → t ≡ hash_by v₀ m (a * 4 + length m % 4) → v ≡ moved_by a v₀
    → bit_xor (bit_xor t (pair v / 2 ^ (32 - length m % 4 * 8) % 2 ^ 32)) (last_word v (length m))
    ≡ code_of (words work word (word_count (length m * 8)) x) (length m * 8) m
unfolding code_of
code-end x m v₀ s a t v e f g =
    let n = word_count (length m * 8) in
    let k : a * 4 + length m % 4 ≡ length m = omega arith in
    rw (f, g, k, e, s)
    (ap₂ bit_xor
    (ap₂ bit_xor (hash-words x n m (length m) (omega arith)) (here x n (length m) (omega arith)))
    (last x m ∙ sym (whole x n (n - 1) (omega arith))))
