-- The table of the mixed S-box values: the octets of an entry, and a column put together from four entries.
-- Assumes nothing.
use mathlib.Core.Path.{◌≡◌, refl, ap, sym, ◌∙◌}
use mathlib.Core.List.{List, [], ◌∷◌, zip_with}
use Prim.Native.Nat.{ℕ, zero, suc, ◌+◌, ◌-◌, ◌/◌, ◌%◌, ◌<◌, ◌≤◌}
use native.Mathlib.Omega.{arith}
use lib.Bits.{bit_xor, xor_comm}
use lib.ListN.{length, get_or}
use Rattle.std.specs.Int.{to_le_bytes, w64}
use Rattle.aes_block.specs.Octets.{four, xor}
use Rattle.aes_block.specs.Field.{times, times_bits, x_times, sbox}
use Rattle.aes_block.specs.Cipher.{mixed}
use Rattle.aes_block.specs.Mix.{mix_entry, row}
use Rattle.aes_block.proofs.Tables.{same-table}
use Rattle.aes_block.proofs.Lists.{four-by}
use Rattle.aes_block.proofs.Field.{sbox-octet}
use Rattle.aes_block.proofs.Xor.{other_way, xors-swap, xor-twice}

-- the octets of an entry, from the lowest on
abbrev pub twice : ℕ → List ℕ
twice s = times 2 s ∷ s ∷ s ∷ times 3 s ∷ times 2 s ∷ s ∷ s ∷ times 3 s ∷ []

module _ (b : ℕ) where
  octet-0 : mix_entry (sbox b) % 256 ≡ times 2 (sbox b)
  unfolding times times_bits x_times
  octet-0 = same-table (λ s. mix_entry s % 256) (times 2) 256 (sbox b) refl (sbox-octet b)

  pub octet-1 : mix_entry (sbox b) / 256 % 256 ≡ sbox b
  unfolding times times_bits x_times
  octet-1 = same-table (λ s. mix_entry s / 256 % 256) (λ s. s) 256 (sbox b) refl (sbox-octet b)

  octet-2 : mix_entry (sbox b) / 65536 % 256 ≡ sbox b
  unfolding times times_bits x_times
  octet-2 = same-table (λ s. mix_entry s / 65536 % 256) (λ s. s) 256 (sbox b) refl (sbox-octet b)

  octet-3 : mix_entry (sbox b) / 16777216 % 256 ≡ times 3 (sbox b)
  unfolding times times_bits x_times
  octet-3 = same-table (λ s. mix_entry s / 16777216 % 256) (times 3) 256 (sbox b) refl (sbox-octet b)

  octet-4 : mix_entry (sbox b) / 4294967296 % 256 ≡ times 2 (sbox b)
  unfolding times times_bits x_times
  octet-4 = same-table (λ s. mix_entry s / 4294967296 % 256) (times 2) 256 (sbox b) refl (sbox-octet b)

  octet-5 : mix_entry (sbox b) / 1099511627776 % 256 ≡ sbox b
  unfolding times times_bits x_times
  octet-5 = same-table (λ s. mix_entry s / 1099511627776 % 256) (λ s. s) 256 (sbox b) refl (sbox-octet b)

  octet-6 : mix_entry (sbox b) / 281474976710656 % 256 ≡ sbox b
  unfolding times times_bits x_times
  octet-6 = same-table (λ s. mix_entry s / 281474976710656 % 256) (λ s. s) 256 (sbox b) refl (sbox-octet b)

  octet-7 : mix_entry (sbox b) / 72057594037927936 % 256 ≡ times 3 (sbox b)
  unfolding times times_bits x_times
  octet-7 = same-table (λ s. mix_entry s / 72057594037927936 % 256) (times 3) 256 (sbox b) refl (sbox-octet b)

  pub entry-octets : to_le_bytes w64 (mix_entry (sbox b)) ≡ twice (sbox b)
  entry-octets = λ i. octet-0 i ∷ octet-1 i ∷ octet-2 i ∷ octet-3 i ∷ octet-4 i ∷ octet-5 i ∷ octet-6 i ∷ octet-7 i ∷ []

pub row-of : (r s : ℕ) → r < 4 → (let k = (4 - r) % 4 in let l = twice s in get_or l k 0 ∷ get_or l (k + 1) 0 ∷ get_or l (k + 2) 0 ∷ get_or l (k + 3) 0 ∷ []) ≡ row r s
row-of zero s h = refl
row-of (suc zero) s h = refl
row-of (suc (suc zero)) s h = refl
row-of (suc (suc (suc zero))) s h = refl
row-of (suc (suc (suc (suc r)))) s h = absurd (omega arith)

-- the first of four goes to the end
turn : (p q u v : ℕ) → bit_xor (bit_xor (bit_xor p q) u) v ≡ bit_xor (bit_xor (bit_xor q u) v) p
turn p q u v =
    ap (λ (x : ℕ). bit_xor (bit_xor x u) v) (xor_comm p q) ∙
    ap (λ (x : ℕ). bit_xor x v) (other_way q p u) ∙
    other_way (bit_xor q u) p v

-- the order in which the code takes the key and the four rows
ordered : (k p q u v : ℕ) → bit_xor (bit_xor (bit_xor (bit_xor k p) v) q) u ≡ bit_xor (bit_xor (bit_xor (bit_xor p q) u) v) k
ordered k p q u v =
    ap (λ (x : ℕ). bit_xor x u) (other_way (bit_xor k p) v q) ∙
    other_way (bit_xor (bit_xor k p) q) v u ∙
    ap (λ (x : ℕ). bit_xor x v) (turn k p q u) ∙
    other_way (bit_xor (bit_xor p q) u) k v

module _ (k p q u v : ℕ) where
  row-1 : bit_xor (bit_xor (bit_xor (bit_xor k p) v) q) u ≡ bit_xor (bit_xor (bit_xor (bit_xor q u) v) p) k
  row-1 = ordered k p q u v ∙ ap (λ (x : ℕ). bit_xor x k) (turn p q u v)

  row-2 : bit_xor (bit_xor (bit_xor (bit_xor k p) v) q) u ≡ bit_xor (bit_xor (bit_xor (bit_xor u v) p) q) k
  row-2 = row-1 ∙ ap (λ (x : ℕ). bit_xor x k) (turn q u v p)

  row-3 : bit_xor (bit_xor (bit_xor (bit_xor k p) v) q) u ≡ bit_xor (bit_xor (bit_xor (bit_xor v p) q) u) k
  row-3 = row-2 ∙ ap (λ (x : ℕ). bit_xor x k) (turn u v p q)

-- four S-box values mixed, under a word of the key
unfoldable pub under-key : ℕ → ℕ → ℕ → ℕ → List ℕ → List ℕ
under-key a b c d k = xor (four (mixed (a ∷ b ∷ c ∷ d ∷ []))) k

pub column : (a b c d : ℕ) (k : List ℕ) → length k ≡ 4
    → xor (xor (xor (xor k (row 0 a)) (row 3 d)) (row 1 b)) (row 2 c) ≡ under-key a b c d k
unfolding zip_with under-key
column a b c d [] h = absurd (omega arith)
column a b c d (k0 ∷ []) h = absurd (omega arith)
column a b c d (k0 ∷ k1 ∷ []) h = absurd (omega arith)
column a b c d (k0 ∷ k1 ∷ k2 ∷ []) h = absurd (omega arith)
column a b c d (k0 ∷ k1 ∷ k2 ∷ k3 ∷ []) h =
    four-by (ordered k0 (times 2 a) (times 3 b) c d) (row-1 k1 a (times 2 b) (times 3 c) d) (row-2 k2 a b (times 2 c) (times 3 d)) (row-3 k3 (times 3 a) b c (times 2 d))
column a b c d (k0 ∷ k1 ∷ k2 ∷ k3 ∷ k4 ∷ k) h = absurd (omega arith)

-- the third, and the second, of five goes to the end
third : (k p q u v : List ℕ) → xor (xor (xor (xor k p) q) u) v ≡ xor (xor (xor (xor k p) u) v) q
third k p q u v = ap (λ (z : List ℕ). xor z v) (xors-swap (xor k p) q u) ∙ xors-swap (xor (xor k p) u) q v

second : (k p q u v : List ℕ) → xor (xor (xor (xor k p) q) u) v ≡ xor (xor (xor (xor k q) u) v) p
second k p q u v = ap (λ (z : List ℕ). xor (xor z u) v) (xors-swap k p q) ∙ third k q p u v

-- a column is one row's part and the rest
module _ (a b c d : ℕ) (k : List ℕ) (h : length k ≡ 4) where
  part-0 : under-key a b c d k ≡ xor (xor (xor (xor k (row 3 d)) (row 1 b)) (row 2 c)) (row 0 a)
  part-0 = sym (column a b c d k h) ∙ second k (row 0 a) (row 3 d) (row 1 b) (row 2 c)

  part-1 : under-key a b c d k ≡ xor (xor (xor (xor k (row 0 a)) (row 3 d)) (row 2 c)) (row 1 b)
  part-1 = sym (column a b c d k h) ∙ xors-swap (xor (xor k (row 0 a)) (row 3 d)) (row 1 b) (row 2 c)

  part-2 : under-key a b c d k ≡ xor (xor (xor (xor k (row 0 a)) (row 3 d)) (row 1 b)) (row 2 c)
  part-2 = sym (column a b c d k h)

  part-3 : under-key a b c d k ≡ xor (xor (xor (xor k (row 0 a)) (row 1 b)) (row 2 c)) (row 3 d)
  part-3 = sym (column a b c d k h) ∙ third k (row 0 a) (row 3 d) (row 1 b) (row 2 c)

fewer : (a b : List ℕ) → length (xor a b) ≤ length a
unfolding zip_with
fewer [] b = omega arith
fewer (x ∷ a) [] = omega arith
fewer (x ∷ a) (y ∷ b) = let h : length (xor a b) ≤ length a = fewer a b in omega (arith, h)

-- a part taken out, and another put in its place
exchange : (l l' k x y z p p' : List ℕ) → length k ≡ 4 → length p ≡ 4 → l ≡ xor (xor (xor (xor k x) y) z) p → l' ≡ xor (xor (xor (xor k x) y) z) p'
    → xor (xor l p) p' ≡ l'
exchange l l' k x y z p p' h i e f =
    let n : length (xor (xor (xor k x) y) z) ≤ length p = omega (arith, fewer (xor (xor k x) y) z, fewer (xor k x) y, fewer k x, h, i) in
    ap (λ (m : List ℕ). xor (xor m p) p') e ∙ ap (λ (m : List ℕ). xor m p') (xor-twice (xor (xor (xor k x) y) z) p n) ∙ sym f

module _ (a b c d x : ℕ) (k : List ℕ) (h : length k ≡ 4) where
  pub exchange-0 : xor (xor (under-key a b c d k) (row 0 a)) (row 0 x) ≡ under-key x b c d k
  exchange-0 = exchange _ _ k (row 3 d) (row 1 b) (row 2 c) (row 0 a) (row 0 x) h refl (part-0 a b c d k h) (part-0 x b c d k h)

  pub exchange-1 : xor (xor (under-key a b c d k) (row 1 b)) (row 1 x) ≡ under-key a x c d k
  exchange-1 = exchange _ _ k (row 0 a) (row 3 d) (row 2 c) (row 1 b) (row 1 x) h refl (part-1 a b c d k h) (part-1 a x c d k h)

  pub exchange-2 : xor (xor (under-key a b c d k) (row 2 c)) (row 2 x) ≡ under-key a b x d k
  exchange-2 = exchange _ _ k (row 0 a) (row 3 d) (row 1 b) (row 2 c) (row 2 x) h refl (part-2 a b c d k h) (part-2 a b x d k h)

  pub exchange-3 : xor (xor (under-key a b c d k) (row 3 d)) (row 3 x) ≡ under-key a b c x k
  exchange-3 = exchange _ _ k (row 0 a) (row 1 b) (row 2 c) (row 3 d) (row 3 x) h refl (part-3 a b c d k h) (part-3 a b c x k h)
