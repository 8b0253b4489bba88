-- Words by their octets: exclusive or, turning, and the boxes S1 and S2 from their tables.
-- Assumes nothing.
use Rattle.std.proofs.Common.{◌≡◌, ℕ, ◌+◌, ◌*◌, ◌^◌, ◌<◌, List, map, get_or, refl, ap, ◌∙◌, ap₂, arith, lit<}
use lib.Bits.{bit_xor, xor_lt, xor_block}
use Rattle.aes.specs.Octets.{below}
use Rattle.aes.specs.Field as A
use Rattle.aes.specs.Field.{sbox, affine, inverse, squares, x_times}
use Rattle.aes.proofs.Octets.{sbox-octet}
use Rattle.aes.proofs.Tables.{table_at}
use Rattle.snow3g.specs.Words.{word, octet0, octet1, octet2, octet3, xor4}
use Rattle.streams.specs.Words.{turned}
use Rattle.streams.specs.Field.{mulx, times, times_bits}
use Rattle.snow3g.specs.Field.{power_bits}
use Rattle.snow3g.specs.Boxes.{sr, sq, mix, s1, s2, powers}
use Rattle.snow3g.specs.Tables.{column, s1_table, s2_table, by_table}
use Rattle.snow3g.specs.declared.tables.TheConstants.{S1, S2}
use Rattle.snow3g.proofs.Columns.{by-columns}
use Rattle.snow3g.proofs.Octets.{sq-octet, mulx-octet}

xor-word : (a b c d a' b' c' d' : ℕ) → b < 256 → c < 256 → d < 256 → b' < 256 → c' < 256 → d' < 256
    → bit_xor (word a b c d) (word a' b' c' d') ≡ word (bit_xor a a') (bit_xor b b') (bit_xor c c') (bit_xor d d')
xor-word a b c d a' b' c' d' hb hc hd hb' hc' hd' =
    xor_block 8 ((a * 256 + b) * 256 + c) ((a' * 256 + b') * 256 + c') d d' hd hd' ∙
    ap (λ (x : ℕ). x * 256 + bit_xor d d')
    (xor_block 8 (a * 256 + b) (a' * 256 + b') c c' hc hc' ∙ ap (λ (x : ℕ). x * 256 + bit_xor c c') (xor_block 8 a a' b b' hb hb'))

turned24 : (a b c d : ℕ) → b < 256 → c < 256 → d < 256 → turned (word a b c d) 24 ≡ word d a b c
turned24 a b c d hb hc hd = omega arith

turned16 : (a b c d : ℕ) → b < 256 → c < 256 → d < 256 → turned (word a b c d) 16 ≡ word c d a b
turned16 a b c d hb hc hd = omega arith

turned8 : (a b c d : ℕ) → b < 256 → c < 256 → d < 256 → turned (word a b c d) 8 ≡ word b c d a
turned8 a b c d hb hc hd = omega arith

module _ (k : ℕ) (hk : k < 256) where
  columns : (a b d e : ℕ) → a < 256 → b < 256 → d < 256 → e < 256
      → xor4 (column k a) (turned (column k b) 24) (turned (column k d) 16) (turned (column k e) 8) ≡ mix k a b d e
  unfolding column mix
  columns a b d e ha hb hd he =
      let ma : mulx a k < 256 = mulx-octet a k ha hk in
      let mb : mulx b k < 256 = mulx-octet b k hb hk in
      let md : mulx d k < 256 = mulx-octet d k hd hk in
      let me : mulx e k < 256 = mulx-octet e k he hk in
      let na : bit_xor (mulx a k) a < 256 = xor_lt 8 (mulx a k) a ma ha in
      let nb : bit_xor (mulx b k) b < 256 = xor_lt 8 (mulx b k) b mb hb in
      let nd : bit_xor (mulx d k) d < 256 = xor_lt 8 (mulx d k) d md hd in
      let ne : bit_xor (mulx e k) e < 256 = xor_lt 8 (mulx e k) e me he in
      let o : (x y : ℕ) → x < 256 → y < 256 → bit_xor x y < 256 = λ x y h h'. xor_lt 8 x y h h' in
      let t8 = turned24 (mulx b k) (bit_xor (mulx b k) b) b b nb hb hb in
      let t16 = turned16 (mulx d k) (bit_xor (mulx d k) d) d d nd hd hd in
      let t24 = turned8 (mulx e k) (bit_xor (mulx e k) e) e e ne he he in
      ap₂ bit_xor
      (ap₂ bit_xor
      (ap (λ (x : ℕ). bit_xor (word (mulx a k) (bit_xor (mulx a k) a) a a) x) t8 ∙
      xor-word (mulx a k) (bit_xor (mulx a k) a) a a b (mulx b k) (bit_xor (mulx b k) b) b na ha ha mb nb hb)
      t16 ∙
      xor-word _ _ _ _ d d (mulx d k) (bit_xor (mulx d k) d) (o _ _ na mb) (o _ _ ha nb) (o _ _ ha hb) hd md nd)
      t24 ∙
      xor-word _ _ _ _ (bit_xor (mulx e k) e) e e (mulx e k) (o _ _ (o _ _ na mb) hd) (o _ _ (o _ _ ha nb) md) (o _ _ (o _ _ ha hb) nd) he he me

  box : (f : ℕ → ℕ) → ((x : ℕ) → x < 256 → f x < 256) → (t : List ℕ) → t ≡ map (λ x. column k (f x)) (below 256) → (w : ℕ) → w < 2 ^ 32
      → by_table t w ≡ mix k (f (octet0 w)) (f (octet1 w)) (f (octet2 w)) (f (octet3 w))
  box f h t e w p =
      let o0 : octet0 w < 256 = omega arith in
      let o1 : octet1 w < 256 = omega arith in
      let o2 : octet2 w < 256 = omega arith in
      let o3 : octet3 w < 256 = omega arith in
      let r : (i : ℕ) → i < 256 → get_or t i 0 ≡ column k (f i) = λ i q. rw e (table_at (λ x. column k (f x)) 256 i q) in
      rw (r (octet0 w) o0, r (octet1 w) o1, r (octet2 w) o2, r (octet3 w) o3)
      (columns (f (octet0 w)) (f (octet1 w)) (f (octet2 w)) (f (octet3 w))
      (h (octet0 w) o0) (h (octet1 w) o1) (h (octet2 w) o2) (h (octet3 w) o3))

s1-is : S1 ≡ s1_table
unfolding s1_table column mulx sbox affine inverse squares A.times A.times_bits x_times
s1-is = by-columns 0x1B sr S1 refl refl

s2-is : S2 ≡ s2_table
unfolding s2_table column sq powers power_bits times times_bits mulx
s2-is = by-columns 0x69 sq S2 refl refl

pub s1-box : (w : ℕ) → w < 2 ^ 32 → by_table S1 w ≡ s1 w
unfolding s1 s1_table
s1-box w p = box 0x1B (lit< tt) sr (λ x h. sbox-octet x) S1 s1-is w p

pub s2-box : (w : ℕ) → w < 2 ^ 32 → by_table S2 w ≡ s2 w
unfolding s2 s2_table
s2-box w p = box 0x69 (lit< tt) sq sq-octet S2 s2-is w p
