-- Laws for CMAC: the octets of a head and a message that are not copied together, the blocks of a message, the last one, and the chain.
-- Assumes nothing.
use Rattle.std.proofs.Common.{◌≡◌, ℕ, zero, suc, ◌+◌, ◌-◌, ◌*◌, ◌/◌, ◌<◌, ◌≤◌, Bool, true, false, cond, eqb, ltb, List, [], ◌∷◌, ◌++◌, length, get_or, take, drop, set, replicate, sym, refl, ap, ◌∙◌, ap₂, append_assoc, add-one, arith, length-append, length-drop, length-set, length-take, length-take-le, get_or-drop, take_all, get_or-take, get_or-append-add, ext_get_or, le-ltb, lt-ltb, eq-eqb, ne_eqb}
use mathlib.Core.List.{zip_with}
use native.Mathlib.Decide.{ℕ_discrete, dec_lt}
use lib.ListN.{length-replicate, get_or-append, get_or-eq_default}
use lib.Seq.{get_or_at, drop-append-le, append_snoc, set_at}
use Rattle.std.proofs.lemmas.List.{drop-replicate}
use borrow.Rule.Slice.PartMut.{put_mid}
use Rattle.aes.specs.Octets.{sixteen, xor}
use Rattle.aes.specs.Cipher.{to_state, from_state, cipher}
use Rattle.aes.specs.Cmac.{block, last_block, chain, cmac_at, cmac_by}
use Rattle.aes.specs.Parts.{chain_block}
use Rattle.aes_block.proofs.Tables.{table_at}
use Rattle.aes_block.proofs.Lists.{by-places, xor-length}
use Rattle.aes_block.proofs.Lengths.{cipher-length}
use Rattle.aes_block.proofs.Rounds.{back}

-- octet i of a head h, a message m and what follows them
module _ (h m : List ℕ) where
  pub at_head : (z : List ℕ) (i : ℕ) → i < length h → get_or (h ++ m ++ z) i 0 ≡ get_or h i 0
  at_head z i p = get_or-append (h ++ m) z 0 i (simp length-append (omega arith)) ∙ get_or-append h m 0 i p

  pub at-message : (z : List ℕ) (i k : ℕ) → i ≡ length h + k → k < length m → get_or (h ++ m ++ z) i 0 ≡ get_or m k 0
  at-message z i k e p = get_or-append (h ++ m) z 0 i (simp length-append (omega arith)) ∙ rw e (get_or-append-add h m k 0)

  pub at-end : (x i : ℕ) → i ≡ length h + length m → get_or (h ++ m ++ (x ∷ [])) i 0 ≡ x
  at-end x i e = get_or_at (h ++ m) x [] 0 i (length-append h m ∙ sym e)

  pub past_end : (x i : ℕ) → length h + length m < i → get_or (h ++ m ++ (x ∷ [])) i 0 ≡ 0
  past_end x i p = get_or-eq_default (h ++ m ++ (x ∷ [])) 0 (simp length-append (omega arith))

  -- 16 octets that lie in the message
  pub in-message : (z : List ℕ) (k i : ℕ) → k ≡ length h + i → i + 16 ≤ length m
      → sixteen (λ j. get_or m (i + j) 0) ≡ sixteen (λ j. get_or (h ++ m ++ z) (k + j) 0)
  in-message z k i e p =
      by-places (λ j. get_or m (i + j) 0) 16 (sixteen (λ j. get_or (h ++ m ++ z) (k + j) 0)) refl
      (λ j q. table_at (λ j. get_or (h ++ m ++ z) (k + j) 0) 16 j q ∙ at-message z (k + j) (i + j) (omega arith) (omega arith))

  -- 8 octets of the head, and 8 of the message
  pub in_halves : (z : List ℕ) → length h ≡ 8 → 8 ≤ length m
      → sixteen (λ j. cond (ltb j 8) (get_or h j 0) (get_or m (j - 8) 0)) ≡ sixteen (λ j. get_or (h ++ m ++ z) j 0)
  in_halves z e p =
      by-places (λ j. cond (ltb j 8) (get_or h j 0) (get_or m (j - 8) 0)) 16 (sixteen (λ j. get_or (h ++ m ++ z) j 0)) refl
      (λ j q. table_at (λ j. get_or (h ++ m ++ z) j 0) 16 j q ∙ go j q (dec_lt j 8))
    where
      go : (j : ℕ) → j < 16 → Dec (j < 8) → get_or (h ++ m ++ z) j 0 ≡ cond (ltb j 8) (get_or h j 0) (get_or m (j - 8) 0)
      go j q (yes r) = rw (lt-ltb _ _ r) (at_head z j (omega arith))
      go j q (no r) = let s : 8 ≤ j = omega arith in rw (le-ltb _ _ s) (at-message z j (j - 8) (omega arith) (omega arith))

  -- 16 octets from the message on
  pub behind-head : (z : List ℕ) (k i : ℕ) → k ≡ length h + i → sixteen (λ j. get_or (m ++ z) (i + j) 0) ≡ sixteen (λ j. get_or (h ++ m ++ z) (k + j) 0)
  behind-head z k i e =
      by-places (λ j. get_or (m ++ z) (i + j) 0) 16 (sixteen (λ j. get_or (h ++ m ++ z) (k + j) 0)) refl
      (λ j q. table_at (λ j. get_or (h ++ m ++ z) (k + j) 0) 16 j q ∙ place j)
    where
      place : (j : ℕ) → get_or (h ++ m ++ z) (k + j) 0 ≡ get_or (m ++ z) (i + j) 0
      place j =
          let f : k + j ≡ length h + (i + j) = omega arith in
          ap (λ (l : List ℕ). get_or l (k + j) 0) (append_assoc h m z) ∙
          ap (λ (p : ℕ). get_or (h ++ (m ++ z)) p 0) f ∙
          get_or-append-add h (m ++ z) (i + j) 0

-- zeros behind a list are what is read there anyway
zeros-read : (n i : ℕ) → ◌≡◌ {A = ℕ} (get_or (replicate n 0) i 0) 0
zeros-read zero i = refl
zeros-read (suc n) zero = refl
zeros-read (suc n) (suc i) = zeros-read n i

pub zeros-behind : (l : List ℕ) (n i : ℕ) → get_or (l ++ replicate n 0) i 0 ≡ get_or l i 0
zeros-behind [] n i = zeros-read n i
zeros-behind (x ∷ l) n zero = refl
zeros-behind (x ∷ l) n (suc i) = zeros-behind l n i

-- 16 octets of m from k on, with the bit 1 behind m and zeros from there on
abbrev pub window : List ℕ → ℕ → List ℕ
window m k = sixteen (λ j. get_or (m ++ (128 ∷ [])) (k + j) 0)

window-at : (m : List ℕ) (k j : ℕ) → k ≤ length m → j < 16 → get_or (window m k) j 0 ≡ get_or (drop k m ++ (128 ∷ [])) j 0
window-at m k j inside q =
    table_at (λ i. get_or (m ++ (128 ∷ [])) (k + i) 0) 16 j q ∙
    sym (get_or-drop k (m ++ (128 ∷ [])) j 0) ∙
    ap (λ (l : List ℕ). get_or l j 0) (drop-append-le k m (128 ∷ []) inside)

module _ (m : List ℕ) (n : ℕ) (inside : n * 16 ≤ length m) where
  pub whole : n * 16 + 16 ≤ length m → window m (n * 16) ≡ block m n
  unfolding block
  whole p =
      let e : length (take 16 (drop (n * 16) m)) ≡ 16 = simp (length-take, length-drop) (omega arith) in
      ext_get_or 0 (window m (n * 16)) (take 16 (drop (n * 16) m)) (sym e)
      (λ j q.
      let d : j < length (drop (n * 16) m) = simp length-drop (omega arith) in
      window-at m (n * 16) j inside q ∙ get_or-append (drop (n * 16) m) (128 ∷ []) 0 j d ∙ sym (get_or-take 16 (drop (n * 16) m) j 0 q))

  pub padded : length m < n * 16 + 16 → window m (n * 16) ≡ take 16 (block m n ++ 128 ∷ replicate 15 0)
  unfolding block
  padded p =
      let l = drop (n * 16) m in
      let d : length l ≤ 16 = simp length-drop (omega arith) in
      let e : length (take 16 (l ++ 128 ∷ replicate 15 0)) ≡ 16 = simp (length-take, length-append) (omega arith) in
      rw (take_all 16 l d)
      (ext_get_or 0 (window m (n * 16)) (take 16 (l ++ 128 ∷ replicate 15 0)) (sym e)
      (λ j q.
      window-at m (n * 16) j inside q ∙
      sym (zeros-behind (l ++ (128 ∷ [])) 15 j) ∙
      ap (λ (z : List ℕ). get_or z j 0) (append_assoc l (128 ∷ []) (replicate 15 0)) ∙
      sym (get_or-take 16 (l ++ 128 ∷ replicate 15 0) j 0 q)))

-- the first j octets of l, and zeros behind them up to 16
abbrev pub filled : List ℕ → ℕ → List ℕ
filled l j = take j l ++ replicate (16 - j) 0

filled-length : (l : List ℕ) (j : ℕ) → j ≤ length l → j ≤ 16 → length (filled l j) ≡ 16
filled-length l j p q = simp (length-append, length-take, length-replicate) (omega arith)

-- octets that were copied over the first of sixteen zeros
pub copied : (l ys : List ℕ) (j : ℕ) → ys ≡ take j l → put_mid 0 j (replicate 16 0) ys ≡ filled l j
copied l ys j e = ap₂ (λ (a b : List ℕ). a ++ b) e (drop-replicate j 16 0)

-- octet j stored behind them
store : (l b : List ℕ) (j x : ℕ) → j ≤ length l → j < 16 → b ≡ filled l j → set b j x ≡ take j l ++ (x ∷ []) ++ replicate (16 - (j + 1)) 0
store l b j x p q e =
    let z : List ℕ = replicate (16 - (j + 1)) 0 in
    let n : 16 - j ≡ suc (16 - (j + 1)) = omega arith in
    ap (λ (r : List ℕ). set r j x) (e ∙ ap (λ (k : ℕ). take j l ++ replicate k 0) n) ∙
    set_at (take j l) 0 z x j (length-take-le j l p) ∙
    sym (append_snoc (take j l) x z)

module _ (m b : List ℕ) (i j : ℕ) (e : b ≡ filled (drop i m) j) where
  -- the padding's bit behind all that there are
  pub padded-end : i ≤ length m → j ≡ length m - i → j < 16 → set b j 128 ≡ window m i
  padded-end inside r q =
      let l = drop i m in
      let n : length l ≡ j = length-drop i m ∙ sym r in
      let f : set b j 128 ≡ l ++ (128 ∷ []) ++ replicate (16 - (j + 1)) 0 =
      store l b j 128 (omega arith) q e ∙ ap (λ (t : List ℕ). t ++ (128 ∷ []) ++ replicate (16 - (j + 1)) 0) (take_all j l (omega arith)) in
      let g : length (set b j 128) ≡ 16 = length-set b j 128 ∙ ap length e ∙ filled-length l j (omega arith) (omega arith) in
      ext_get_or 0 (set b j 128) (window m i) g
      (λ k p.
      let d : k < 16 = omega (arith, g) in
      ap (λ (t : List ℕ). get_or t k 0) f ∙ zeros-behind (l ++ (128 ∷ [])) (16 - (j + 1)) k ∙ sym (window-at m i k inside d))

  -- 16 octets
  pub whole-end : i ≤ length m → j ≡ length m - i → j ≡ 16 → b ≡ window m i
  whole-end inside r q =
      let l = drop i m in
      let n : length l ≡ j = length-drop i m ∙ sym r in
      let g : length b ≡ 16 = ap length e ∙ filled-length l j (omega arith) (omega arith) in
      let f : b ≡ l ++ replicate (16 - j) 0 = e ∙ ap (λ (t : List ℕ). t ++ replicate (16 - j) 0) (take_all j l (omega arith)) in
      ext_get_or 0 b (window m i) g
      (λ k p.
      let d : k < 16 = omega (arith, g) in
      let c : k < length l = omega (arith, n) in
      ap (λ (t : List ℕ). get_or t k 0) f ∙
      zeros-behind l (16 - j) k ∙
      sym (get_or-append l (128 ∷ []) 0 k c) ∙
      sym (window-at m i k inside d))

-- the blocks of the chain are windows, and the last has its subkey
module _ (k1 k2 m : List ℕ) where
  pub inner_block : (i : ℕ) → i < (length m - 1) / 16 → window m (i * 16) ≡ chain_block k1 k2 m i
  unfolding chain_block
  inner_block i p = rw (lt-ltb _ _ p) (whole m i (omega arith) (omega arith))

  pub end-block : (n : ℕ) → n ≡ (length m - 1) / 16
      → cond (eqb (length m - n * 16) 16) (xor k1 (window m (n * 16))) (xor k2 (window m (n * 16))) ≡ chain_block k1 k2 m n
  unfolding chain_block last_block
  end-block n e = rw (le-ltb n ((length m - 1) / 16) (omega arith)) (go (ℕ_discrete (length m - n * 16) 16))
    where
      inside : n * 16 ≤ length m
      inside = omega arith

      go : Dec (length m - n * 16 ≡ 16)
          → cond (eqb (length m - n * 16) 16) (xor k1 (window m (n * 16))) (xor k2 (window m (n * 16))) ≡ last_block k1 k2 (block m n)
      go (yes s) =
          let l : length (block m n) ≡ 16 = unfold block in simp (length-take, length-drop) (omega arith) in
          rw (eq-eqb _ _ s, eq-eqb _ _ l, whole m n inside (omega arith))
      go (no s) =
          let l : length (block m n) ≡ 16 → ⊥ = unfold block in λ z. s (omega (arith, simp (length-take, length-drop) at z)) in
          rw (ne_eqb _ _ s, ne_eqb _ _ l, padded m n inside (omega arith))

  pub block-length : (i : ℕ) → i ≤ (length m - 1) / 16 → length k1 ≡ 16 → length k2 ≡ 16 → length (chain_block k1 k2 m i) ≡ 16
  block-length i p h1 h2 = go (dec_lt i ((length m - 1) / 16))
    where
      keyed : (t : Bool) → length (cond t (xor k1 (window m (i * 16))) (xor k2 (window m (i * 16)))) ≡ 16
      keyed true = xor-length k1 (window m (i * 16)) (omega arith) ∙ h1
      keyed false = xor-length k2 (window m (i * 16)) (omega arith) ∙ h2

      go : Dec (i < (length m - 1) / 16) → length (chain_block k1 k2 m i) ≡ 16
      go (yes q) = sym (ap length (inner_block i q))
      go (no q) = sym (ap length (end-block i (omega arith))) ∙ keyed (eqb (length m - i * 16) 16)

-- what i blocks have made: the CMAC where the last is among them
module _ (ciph : List ℕ → List ℕ) (k1 k2 m : List ℕ) where
  unfoldable pub made : ℕ → List ℕ
  made i = cond (ltb ((length m - 1) / 16) i) (cmac_by ciph k1 k2 m) (chain ciph m i)

  pub made_some : (i : ℕ) → i ≤ (length m - 1) / 16 → made i ≡ chain ciph m i
  unfolding made
  made_some i p = rw (le-ltb ((length m - 1) / 16) i p)

  pub made_all : (i : ℕ) → (length m - 1) / 16 < i → made i ≡ cmac_by ciph k1 k2 m
  unfolding made
  made_all i p = rw (lt-ltb ((length m - 1) / 16) i p)

  next-chain : (i : ℕ) → i < (length m - 1) / 16 → ciph (xor (chain ciph m i) (chain_block k1 k2 m i)) ≡ chain ciph m (suc i)
  unfolding chain chain_block
  next-chain i p = rw (lt-ltb i ((length m - 1) / 16) p)

  last-chain : (n : ℕ) → n ≡ (length m - 1) / 16 → ciph (xor (chain ciph m n) (chain_block k1 k2 m n)) ≡ cmac_by ciph k1 k2 m
  unfolding cmac_by cmac_at chain_block
  last-chain n e = rw (le-ltb n ((length m - 1) / 16) (omega arith), ← e)

  pub made_more : (i : ℕ) → i ≤ (length m - 1) / 16 → ciph (xor (made i) (chain_block k1 k2 m i)) ≡ made (i + 1)
  made_more i p = ap (λ (x : List ℕ). ciph (xor x (chain_block k1 k2 m i))) (made_some i p) ∙ go (dec_lt i ((length m - 1) / 16))
    where
      go : Dec (i < (length m - 1) / 16) → ciph (xor (chain ciph m i) (chain_block k1 k2 m i)) ≡ made (i + 1)
      go (yes q) = next-chain i q ∙ ap (chain ciph m) (sym (add-one i)) ∙ sym (made_some (i + 1) (omega arith))
      go (no q) = last-chain i (omega arith) ∙ sym (made_all (i + 1) (omega arith))

-- the cipher of a block of zeros is a CMAC of it
pub of-zeros : (ciph : List ℕ → List ℕ) → cmac_by ciph (replicate 16 0) (replicate 16 0) (replicate 8 0 ++ replicate 8 0) ≡ ciph (replicate 16 0)
unfolding cmac_by cmac_at chain block last_block zip_with
of-zeros ciph = refl

states-length : (x b : List (List ℕ)) → length (xor (from_state x) (from_state b)) ≡ 16
unfolding from_state zip_with
states-length x b = refl

-- a block ciphered as a state
pub next-state : (w k : List ℕ) (x b s r : List (List ℕ)) → length k ≡ 16 → b ≡ to_state k
    → s ≡ to_state (xor (from_state x) (from_state b)) → r ≡ to_state (cipher w (from_state s)) → from_state r ≡ cipher w (xor (from_state x) k)
next-state w k x b s r h e f g =
    ap from_state g ∙
    back (cipher w (from_state s)) (cipher-length w (from_state s)) ∙
    ap (cipher w)
    (ap from_state f ∙
    back (xor (from_state x) (from_state b)) (states-length x b) ∙
    ap (λ (z : List ℕ). xor (from_state x) z) (ap from_state e ∙ back k h))
