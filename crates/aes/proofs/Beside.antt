-- A message ciphered in counter mode beside another chain of blocks: how far it is ciphered, the counter blocks of a run, and two states that
-- end side by side.
-- Assumes nothing.
use Rattle.std.proofs.Common.{◌≡◌, ℕ, zero, suc, ◌+◌, ◌-◌, ◌*◌, ◌/◌, ◌%◌, ◌^◌, ◌<◌, ◌≤◌, List, [], ◌∷◌, ◌++◌, length, get_or, take, drop, sym, refl, ap, ◌∙◌, append_assoc, arith, length-take-le, take_at}
use lib.Bits.{bit_xor}
use Rattle.aes.specs.Octets.{four, xor}
use Rattle.aes.specs.Cipher.{to_state, from_state, add_round_key, rounds, cipher}
use Rattle.aes.specs.Counter.{counter, ctr_of}
use Rattle.aes_block.specs.Mix.{two_rounds, Shared, ended}
use Rattle.aes_block.proofs.Lists.{xor-length}
use Rattle.aes_block.proofs.Lengths.{cipher-length}
use Rattle.aes_block.proofs.Rounds.{back, left-of, right_of, state-end}
use Rattle.aes.proofs.Stream.{under, begun, begun-length, octet, as-ctr, none, done}
use Rattle.aes.proofs.Over.{laid, parts, over-length, turn-block}
use Rattle.aes.proofs.Runs.{run-block}
use Rattle.aes.proofs.Chain.{from-length}

-- k over l from place i on, which leaves what lies before as it is
pub laid-length : (l l' k : List ℕ) (i n : ℕ) → length k ≡ n → i + n ≤ length l → l' ≡ laid l i k n → length l' ≡ length l
laid-length l l' k i n e h f = ap length (f ∙ parts l k i n (i + n) (sym e) refl h) ∙ over-length l k i

pub laid-before : (l l' k : List ℕ) (i n : ℕ) → i ≤ length l → l' ≡ laid l i k n → take i l ≡ take i l'
laid-before l l' k i n h f =
    let q : length (take i l) ≡ i = length-take-le i l h in
    let m = xor (take n (drop i l)) k in
    let z = drop (i + n) l in
    sym (ap (take i) (f ∙ append_assoc (take i l) m z) ∙ take_at (take i l) (m ++ z) i q)

begun-take : (f : ℕ → ℕ) (j : ℕ) (l : List ℕ) (i n : ℕ) → i ≤ n → take i (begun f j l i) ≡ take i (begun f j l n)
unfolding under
begun-take f j l zero n h = refl
begun-take f j l (suc i) zero h = absurd (omega arith)
begun-take f j [] (suc i) (suc n) h = refl
begun-take f j (x ∷ l) (suc i) (suc n) h = ap (λ (r : List ℕ). bit_xor x (f j) ∷ r) (begun-take f (suc j) l i n (omega arith))

module _ (ciph : List ℕ → List ℕ) (sized : (b : List ℕ) → length (ciph b) ≡ 16) (t : List ℕ) where
  pub part_length : (l p : List ℕ) (i : ℕ) → p ≡ ctr_of ciph t (take i l) ++ drop i l → length p ≡ length l
  part_length l p i e = ap length (e ∙ sym (as-ctr ciph sized t l i)) ∙ begun-length (octet ciph sized t) 0 l i

  pub all_done : (l p : List ℕ) (i : ℕ) → length l ≤ i → p ≡ ctr_of ciph t (take i l) ++ drop i l → p ≡ ctr_of ciph t l
  all_done l p i h e = e ∙ sym (as-ctr ciph sized t l i) ∙ done ciph sized t l i h

  -- as a call says it that begins with nothing ciphered
  pub from-none : (l p : List ℕ) (i : ℕ) → ((k : List ℕ) → l ≡ ctr_of ciph t (take 0 k) ++ drop 0 k → p ≡ ctr_of ciph t (take i k) ++ drop i k)
      → p ≡ ctr_of ciph t (take i l) ++ drop i l
  from-none l p i e = e l (none ciph t l)

  pub ctr-length : (l : List ℕ) → length (ctr_of ciph t l) ≡ length l
  ctr-length l =
      let h : length l ≤ length l = omega arith in
      ap length (sym (done ciph sized t l (length l) h)) ∙ begun-length (octet ciph sized t) 0 l (length l)

  -- the first i octets stay when those behind are ciphered
  pub start-kept : (l p p' : List ℕ) (i n : ℕ) → i ≤ n → p ≡ ctr_of ciph t (take i l) ++ drop i l → p' ≡ ctr_of ciph t (take n l) ++ drop n l → take i p ≡ take i p'
  start-kept l p p' i n h e f =
      ap (take i) (e ∙ sym (as-ctr ciph sized t l i)) ∙
      begun-take (octet ciph sized t) 0 l i n h ∙
      sym (ap (take i) (f ∙ sym (as-ctr ciph sized t l n)))

  pub block_more : (l p p' : List ℕ) (i : ℕ) → i % 16 ≡ 0 → i + 16 ≤ length p → p ≡ ctr_of ciph t (take i l) ++ drop i l
      → p' ≡ laid p i (ciph (counter t (i / 16))) 16 → p' ≡ ctr_of ciph t (take (i + 16) l) ++ drop (i + 16) l
  block_more l p p' i z h e f =
      let n : length p ≡ length l = part_length l p i e in
      turn-block ciph sized t l p p' i z (omega arith) n (e ∙ sym (as-ctr ciph sized t l i)) f ∙ as-ctr ciph sized t l (i + 16)

pub long : (w t l p : List ℕ) → 48 ≤ length l
    → ((k : List ℕ) → l ≡ ctr_of (cipher w) t (take 0 k) ++ drop 0 k → p ≡ ctr_of (cipher w) t (take 32 k) ++ drop 32 k) → 48 ≤ length p
long w t l p h e =
    let n = part_length (cipher w) (cipher-length w) t l p 32 (from-none (cipher w) (cipher-length w) t l p 32 e) in
    omega (arith, n)

-- in a run of counter blocks from octet i₀ to end: the last octet of the block at i, and of the one behind it
module _ (o o₀ i₀ i end : ℕ) (y : i₀ % 16 ≡ 0) (z : i % 16 ≡ 0) (a : i₀ ≤ i) (b : end + o₀ * 16 ≤ i₀ + 4096) (e : o ≡ o₀ + (i / 16 - i₀ / 16)) where
  pub this-octet : i < end → o < 256
  this-octet h = omega arith

  pub next-octet : (o' : ℕ) → o' ≡ (o + 1) % 2 ^ 8 → i + 16 < end → o' ≡ o₀ + ((i + 16) / 16 - i₀ / 16)
  next-octet o' f h = omega arith

-- the blocks that two states side by side end in
module _ (w v : List ℕ) (p q s : List (List ℕ)) (e : s ≡ ended w p ++ ended v q) where
  pub left-block : (t : List ℕ) (g r : List (List ℕ)) (n k o : ℕ) → length t ≡ 16 → Shared w (counter t n) g → o ≡ get_or (counter t n) 15 0 + k → o < 256
      → p ≡ two_rounds g (bit_xor o (get_or w 15 0)) → r ≡ four (λ c. get_or s c []) → from_state r ≡ cipher w (counter t (n + k))
  left-block t g r n k o h z a b f d = ap from_state (d ∙ left-of w v p q s e) ∙ run-block w t g p n k o h z a b f

  pub right-block : (x r : List (List ℕ)) → x ≡ to_state (from_state x) → q ≡ rounds v 2 (add_round_key v 0 x) → r ≡ four (λ c. get_or s (c + 4) [])
      → from_state r ≡ cipher v (from_state x)
  right-block x r a f k =
      ap from_state (k ∙ right_of w v p q s e ∙ ap (ended v) f ∙ state-end v x a) ∙ back (cipher v (from_state x)) (cipher-length v (from_state x))

again : (b : List ℕ) → to_state (from_state (to_state b)) ≡ to_state b
unfolding to_state from_state
again b = refl

pub made-square : (b : List ℕ) (s : List (List ℕ)) → s ≡ to_state b → s ≡ to_state (from_state s)
made-square b s e = e ∙ sym (ap (λ (z : List (List ℕ)). to_state (from_state z)) e ∙ again b)

-- two states added
pub summed : (a b s : List (List ℕ)) → s ≡ to_state (xor (from_state a) (from_state b)) → from_state s ≡ xor (from_state a) (from_state b)
summed a b s e =
    ap from_state e ∙ back (xor (from_state a) (from_state b)) (xor-length (from_state a) (from_state b) (omega (arith, from-length a, from-length b)) ∙ from-length a)
