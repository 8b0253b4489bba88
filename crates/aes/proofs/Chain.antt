-- The chain of CMAC over nine octets and a message that is ciphered meanwhile: blocks go in two behind those that change.
-- Assumes nothing.
use Rattle.std.proofs.Common.{◌≡◌, ℕ, zero, suc, ◌+◌, ◌-◌, ◌*◌, ◌/◌, ◌%◌, ◌≤◌, List, [], ◌∷◌, ◌++◌, length, get_or, take, drop, replicate, sym, refl, ap, ◌∙◌, ap₂, suc-add, zero-add, arith, length-append, length-drop, length-take, get_or-drop, get_or-take, take-take, get_or-append-add}
use mathlib.Core.List.{zip_with}
use lib.Bits.{xor_zero_l}
use lib.Seq.{take-nil, take-append-add}
use Rattle.aes.specs.Octets.{sixteen, xor}
use Rattle.aes.specs.Cipher.{from_state, cipher}
use Rattle.aes.specs.Cmac.{block, chain}
use Rattle.aes_block.proofs.Lists.{by-places}
use Rattle.aes_block.proofs.Xor.{xor-twice}
use Rattle.aes_block.proofs.Lengths.{cipher-length}

pub from-length : (s : List (List ℕ)) → length (from_state s) ≡ 16
unfolding from_state
from-length s = refl

take_same : (a b : ℕ) (l k : List ℕ) → a ≤ b → take b l ≡ take b k → take a l ≡ take a k
take_same a b l k p e = sym (take-take a b l p) ∙ ap (take a) e ∙ take-take a b k p

part_of : (i n : ℕ) (l : List ℕ) → drop i (take (i + n) l) ≡ take n (drop i l)
part_of zero n l = ap (λ (k : ℕ). take k l) (zero-add n)
part_of (suc i) n [] = ap (λ (k : ℕ). drop (suc i) (take {A = ℕ} k [])) (suc-add i n) ∙ sym (take-nil n)
part_of (suc i) n (x ∷ l) = ap (λ (k : ℕ). drop (suc i) (take k (x ∷ l))) (suc-add i n) ∙ part_of i n l

block_same : (m m' : List ℕ) (i : ℕ) → take (i * 16 + 16) m ≡ take (i * 16 + 16) m' → block m i ≡ block m' i
unfolding block
block_same m m' i e = sym (part_of (i * 16) 16 m) ∙ ap (drop (i * 16)) e ∙ part_of (i * 16) 16 m'

module _ (ciph : List ℕ → List ℕ) where
  chain_same : (m m' : List ℕ) (i : ℕ) → take (i * 16) m ≡ take (i * 16) m' → chain ciph m i ≡ chain ciph m' i
  unfolding chain
  chain_same m m' zero e = refl
  chain_same m m' (suc i) e =
      let f : suc i * 16 ≡ i * 16 + 16 = omega arith in
      let g = ap (λ (n : ℕ). take n m) (sym f) ∙ e ∙ ap (λ (n : ℕ). take n m') f in
      ap₂ (λ (a b : List ℕ). ciph (xor a b)) (chain_same m m' i (take_same (i * 16) (i * 16 + 16) m m' (omega arith) g)) (block_same m m' i g)

  -- what goes into the cipher next
  abbrev pub entering : List ℕ → ℕ → List ℕ
  entering m k = xor (chain ciph m k) (block m k)

  -- behind nine octets h, where the first i octets of p stay
  pub entering-same : (h p p' : List ℕ) (i k : ℕ) → length h ≡ 9 → k * 16 + 16 ≤ i + 9 → take i p ≡ take i p' → entering (h ++ p) k ≡ entering (h ++ p') k
  entering-same h p p' i k n b e =
      let a : take (length h + i) (h ++ p) ≡ take (length h + i) (h ++ p') =
      take-append-add h p i ∙ ap (λ (z : List ℕ). h ++ z) e ∙ sym (take-append-add h p' i) in
      ap₂ xor (chain_same (h ++ p) (h ++ p') k (take_same (k * 16) (length h + i) (h ++ p) (h ++ p') (omega arith) a))
      (block_same (h ++ p) (h ++ p') k (take_same (k * 16 + 16) (length h + i) (h ++ p) (h ++ p') (omega arith) a))

-- a block that lies behind nine octets h
block-behind : (h p : List ℕ) (k i : ℕ) → length h ≡ 9 → k * 16 ≡ i + 9 → i + 16 ≤ length p
    → sixteen (λ j. get_or p (i + j) 0) ≡ block (h ++ p) k
unfolding block
block-behind h p k i n e b =
    let s : length (take 16 (drop (k * 16) (h ++ p))) ≡ 16 = simp (length-take, length-drop, length-append) (omega arith) in
    by-places (λ j. get_or p (i + j) 0) 16 (take 16 (drop (k * 16) (h ++ p))) s
    (λ j q.
    let f : k * 16 + j ≡ length h + (i + j) = omega arith in
    get_or-take 16 (drop (k * 16) (h ++ p)) j 0 q ∙
    get_or-drop (k * 16) (h ++ p) j 0 ∙
    ap (λ (z : ℕ). get_or (h ++ p) z 0) f ∙
    get_or-append-add h p (i + j) 0)

module _ (ciph : List ℕ → List ℕ) where
  -- one block more: x had block i / 16 - 2 in it, and octets of p from i on have changed
  pub chain_more : (h p p' x x' : List ℕ) (i : ℕ) → length h ≡ 9 → 32 ≤ i → i % 16 ≡ 0 → i + 16 ≤ length p' → take i p ≡ take i p'
      → x ≡ entering ciph (h ++ p) (i / 16 - 2) → x' ≡ xor (ciph x) (sixteen (λ j. get_or p' (i - 25 + j) 0))
      → x' ≡ entering ciph (h ++ p') ((i + 16) / 16 - 2)
  unfolding chain
  chain_more h p p' x x' i n b z s d e f =
      let k = i / 16 - 2 in
      let g : suc k ≡ (i + 16) / 16 - 2 = omega arith in
      f ∙
      ap₂ (λ (y c : List ℕ). xor (ciph y) c) (e ∙ entering-same ciph h p p' i k n (omega arith) d)
      (block-behind h p' (suc k) (i - 25) n (omega arith) (omega arith)) ∙
      ap (entering ciph (h ++ p')) g

chain_length : (v m : List ℕ) (i : ℕ) → length (chain (cipher v) m i) ≡ 16
unfolding chain
chain_length v m zero = refl
chain_length v m (suc i) = cipher-length v _

-- the last block taken out again
pub chain-out : (v h p x r : List ℕ) (end : ℕ) → length h ≡ 9 → 48 ≤ end → end % 16 ≡ 0 → end ≤ length p
    → x ≡ entering (cipher v) (h ++ p) (end / 16 - 2) → r ≡ xor x (sixteen (λ j. get_or p (end - 41 + j) 0)) → r ≡ chain (cipher v) (h ++ p) (end / 16 - 2)
chain-out v h p x r end n b z s e f =
    let k = end / 16 - 2 in
    let o = block-behind h p k (end - 41) n (omega arith) (omega arith) in
    let u : length (block (h ++ p) k) ≡ 16 = sym (ap length o) in
    f ∙
    ap₂ xor e o ∙
    xor-twice (chain (cipher v) (h ++ p) k) (block (h ++ p) k) (omega (arith, u, chain_length v (h ++ p) k))

zeros-under : (l : List ℕ) (n : ℕ) → length l ≡ n → xor (replicate n 0) l ≡ l
unfolding zip_with
zeros-under [] zero e = refl
zeros-under [] (suc n) e = absurd (omega arith)
zeros-under (x ∷ l) zero e = absurd (omega arith)
zeros-under (x ∷ l) (suc n) e = ap₂ ◌∷◌ (xor_zero_l x) (zeros-under l n (omega arith))

-- 8 octets of t, the octet f and 7 of p as a state: what goes into the cipher first
abbrev first_state : List ℕ → ℕ → List ℕ → List (List ℕ)
first_state t f p =
    (get_or t 0 0 ∷ get_or t 1 0 ∷ get_or t 2 0 ∷ get_or t 3 0 ∷ []) ∷ (get_or t 4 0 ∷ get_or t 5 0 ∷ get_or t 6 0 ∷ get_or t 7 0 ∷ []) ∷
    (f ∷ get_or p 0 0 ∷ get_or p 1 0 ∷ get_or p 2 0 ∷ []) ∷ (get_or p 3 0 ∷ get_or p 4 0 ∷ get_or p 5 0 ∷ get_or p 6 0 ∷ []) ∷ []

module _ (t : List ℕ) (f : ℕ) (p : List ℕ) (n : length t ≡ 16) (b : 7 ≤ length p) where
  pub nine : length (take 8 t ++ (f ∷ [])) ≡ 9
  nine = simp (length-append, length-take) (omega arith)

  first_block : from_state (first_state t f p) ≡ block (take 8 t ++ (f ∷ []) ++ p) 0
  unfolding from_state block
  first_block =
      let i : length (take 8 t) ≡ 8 = simp length-take (omega arith) in
      let j : length (take 7 p) ≡ 7 = simp length-take (omega arith) in
      ap₂ (λ (u v : List ℕ). u ++ (f ∷ []) ++ v) (by-places (λ k. get_or t k 0) 8 (take 8 t) i (λ k q. get_or-take 8 t k 0 q))
      (by-places (λ k. get_or p k 0) 7 (take 7 p) j (λ k q. get_or-take 7 p k 0 q)) ∙
      sym (rw nine at (take-append-add (take 8 t ++ (f ∷ [])) p 7))

  pub chain-begin : (v : List ℕ) → from_state (first_state t f p) ≡ entering (cipher v) (take 8 t ++ (f ∷ []) ++ p) 0
  unfolding chain
  chain-begin v = first_block ∙ sym (zeros-under (block (take 8 t ++ (f ∷ []) ++ p) 0) 16 (sym (ap length first_block) ∙ from-length _))
