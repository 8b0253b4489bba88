-- Part of a list with another laid over it by exclusive or.
-- Assumes nothing.
use Rattle.std.proofs.Common.{◌≡◌, ℕ, zero, suc, ◌+◌, ◌-◌, ◌*◌, ◌/◌, ◌%◌, ◌<◌, ◌≤◌, List, [], ◌∷◌, ◌++◌, length, get_or, take, drop, set, sym, refl, ap, ◌∙◌, ap₂, add-zero, add-one, arith, length-append, length-drop, length-take, length-take-le, get_or-drop, get_or-take, get_or-append-add}
use mathlib.Core.List.{zip_with}
use lib.Bits.{bit_xor}
use native.Mathlib.Numerals.{towards_suc}
use native.Mathlib.Decide.{dec_lt}
use lib.ListN.{get_or-append}
use lib.Seq.{sets, sets-eq}
use Rattle.aes.specs.Octets.{four, xor}
use Rattle.aes.specs.Counter.{counter}
use Rattle.aes_block.proofs.Tables.{table_at}
use Rattle.aes_block.proofs.Lists.{by-places, xor-length, xor-at}
use Rattle.aes.proofs.Stream.{under, begun, begun-length, octet, ciphered}

-- k over l from place i on
unfoldable pub over : List ℕ → ℕ → List ℕ → List ℕ
over [] i k = []
over (x ∷ l) zero [] = x ∷ l
over (x ∷ l) zero (y ∷ k) = bit_xor x y ∷ over l zero k
over (x ∷ l) (suc i) k = x ∷ over l i k

-- what lies before, under and behind it; p is where it ends
pub parts : (l k : List ℕ) (i n p : ℕ) → n ≡ length k → p ≡ i + n → p ≤ length l
    → take i l ++ xor (take n (drop i l)) k ++ drop p l ≡ over l i k
unfolding over zip_with
parts [] [] zero zero zero e f h = refl
parts [] [] zero zero (suc p) e f h = absurd (omega arith)
parts [] [] zero (suc n) p e f h = absurd (omega arith)
parts [] (y ∷ k) zero n p e f h = absurd (omega arith)
parts [] k (suc i) n p e f h = absurd (omega arith)
parts (x ∷ l) [] zero zero zero e f h = refl
parts (x ∷ l) [] zero zero (suc p) e f h = absurd (omega arith)
parts (x ∷ l) [] zero (suc n) p e f h = absurd (omega arith)
parts (x ∷ l) (y ∷ k) zero zero p e f h = absurd (omega arith)
parts (x ∷ l) (y ∷ k) zero (suc n) zero e f h = absurd (omega arith)
parts (x ∷ l) (y ∷ k) zero (suc n) (suc p) e f h =
    ap (λ (r : List ℕ). bit_xor x y ∷ r) (parts l k zero n p (omega arith) (omega arith) (omega arith))
parts (x ∷ l) k (suc i) n zero e f h = absurd (omega arith)
parts (x ∷ l) k (suc i) n (suc p) e f h =
    ap (λ (r : List ℕ). x ∷ r) (parts l k i n p e (omega arith) (omega arith))

pub over-length : (l k : List ℕ) (i : ℕ) → length (over l i k) ≡ length l
unfolding over
over-length [] k i = refl
over-length (x ∷ l) [] zero = refl
over-length (x ∷ l) (y ∷ k) zero = ap suc (over-length l k zero)
over-length (x ∷ l) k (suc i) = ap suc (over-length l k i)

-- one behind the other
pub join : (l k k' : List ℕ) (i j : ℕ) → j ≡ i + length k → over (over l i k) j k' ≡ over l i (k ++ k')
unfolding over
join [] k k' i j e = refl
join (x ∷ l) [] k' zero zero e = refl
join (x ∷ l) [] k' zero (suc j) e = absurd (omega arith)
join (x ∷ l) (y ∷ k) k' zero zero e = absurd (omega arith)
join (x ∷ l) (y ∷ k) k' zero (suc j) e = ap (λ (r : List ℕ). bit_xor x y ∷ r) (join l k k' zero j (omega arith))
join (x ∷ l) k k' (suc i) zero e = absurd (omega arith)
join (x ∷ l) k k' (suc i) (suc j) e = ap (λ (r : List ℕ). x ∷ r) (join l k k' i j (omega arith))

over_none : (l : List ℕ) (i : ℕ) → over l i [] ≡ l
unfolding over
over_none [] i = refl
over_none (x ∷ l) zero = refl
over_none (x ∷ l) (suc i) = ap (λ (r : List ℕ). x ∷ r) (over_none l i)

over-one : (l k : List ℕ) (i q j : ℕ) → j ≡ i + q → j < length l → q < length k
    → set (over l i (take q k)) j (bit_xor (get_or (over l i (take q k)) j 0) (get_or k q 0)) ≡ over l i (take (suc q) k)
unfolding over
over-one [] k i q j e h g = absurd (omega arith)
over-one (x ∷ l) [] zero q j e h g = absurd (omega arith)
over-one (x ∷ l) (y ∷ k) zero zero zero e h g = ap (λ (r : List ℕ). bit_xor x y ∷ r) (sym (over_none l 0))
over-one (x ∷ l) (y ∷ k) zero zero (suc j) e h g = absurd (omega arith)
over-one (x ∷ l) (y ∷ k) zero (suc q) zero e h g = absurd (omega arith)
over-one (x ∷ l) (y ∷ k) zero (suc q) (suc j) e h g =
    ap (λ (r : List ℕ). bit_xor x y ∷ r) (over-one l k zero q j (omega arith) (omega arith) (omega arith))
over-one (x ∷ l) k (suc i) q zero e h g = absurd (omega arith)
over-one (x ∷ l) k (suc i) q (suc j) e h g =
    ap (λ (r : List ℕ). x ∷ r) (over-one l k i q j (omega arith) (omega arith) (omega arith))

-- octet by octet from place i on: q of them so far
module _ (l k : List ℕ) (i : ℕ) where
  pub over-begin : l ≡ over l i (take 0 k)
  over-begin = sym (over_none l i)

  pub over-next : (z : List ℕ) (q : ℕ) → i + q < length l → q < length k → z ≡ over l i (take q k)
      → set z (i + q) (bit_xor (get_or z (i + q) 0) (get_or k q 0)) ≡ over l i (take (q + 1) k)
  over-next z q b c e =
      ap (λ (r : List ℕ). set r (i + q) (bit_xor (get_or r (i + q) 0) (get_or k q 0))) e ∙
      over-one l k i q (i + q) refl b c ∙
      ap (λ (n : ℕ). over l i (take n k)) (sym (add-one q))

xor-cut : (n : ℕ) (l k : List ℕ) → xor (take n l) k ≡ xor (take n l) (take n k)
unfolding zip_with
xor-cut zero l k = refl
xor-cut (suc n) [] k = refl
xor-cut (suc n) (x ∷ l) [] = refl
xor-cut (suc n) (x ∷ l) (y ∷ k) = ap (λ (r : List ℕ). bit_xor x y ∷ r) (xor-cut n l k)

-- the first n of k
pub parts-of : (l k : List ℕ) (i n p : ℕ) → n ≤ length k → p ≡ i + n → p ≤ length l
    → take i l ++ xor (take n (drop i l)) k ++ drop p l ≡ over l i (take n k)
parts-of l k i n p e f h =
    ap (λ (z : List ℕ). take i l ++ z ++ drop p l) (xor-cut n (drop i l) k) ∙
    parts l (take n k) i n p (sym (length-take-le n k e)) f h

cut : (k k' : List ℕ) (n n' s : ℕ) → s ≡ n + n' → n ≤ length k → (n < length k → n' ≡ 0) → take s (k ++ k') ≡ take n k ++ take n' k'
cut [] k' zero n' s e h g = let z : s ≡ n' = omega arith in ap (λ (y : ℕ). take y k') z
cut [] k' (suc n) n' s e h g = absurd (omega arith)
cut (x ∷ k) k' zero n' s e h g =
    let z = g (omega arith) in
    let y : s ≡ 0 = omega (arith, z) in
    ap (λ (a : ℕ). take a (x ∷ k ++ k')) y ∙ sym (ap (λ (a : ℕ). take a k') z)
cut (x ∷ k) k' (suc n) n' zero e h g = absurd (omega arith)
cut (x ∷ k) k' (suc n) n' (suc s) e h g =
    ap (λ (r : List ℕ). x ∷ r) (cut k k' n n' s (omega arith) (omega arith) (λ p. g (omega (arith, p))))

-- a part of k from place i on and one of k' behind it, from place j to p
pub parts-two : (l l1 l2 k k' : List ℕ) (i j p : ℕ) → i ≤ j → j ≤ p → p ≤ length l → j - i ≤ length k → p - j ≤ length k'
    → (j - i < length k → p - j ≡ 0) → (a b : List ℕ) → a ≡ k → b ≡ k'
    → l1 ≡ take i l ++ xor (take (j - i) (drop i l)) a ++ drop j l → l2 ≡ take j l1 ++ xor (take (p - j) (drop j l1)) b ++ drop p l1
    → l2 ≡ take i l ++ xor (take (p - i) (drop i l)) (k ++ k') ++ drop p l
parts-two l l1 l2 k k' i j p low high fits c d none a b x y e f =
    let g : l1 ≡ over l i (take (j - i) k) =
    e ∙
    ap (λ (z : List ℕ). take i l ++ xor (take (j - i) (drop i l)) z ++ drop j l) x ∙
    parts-of l k i (j - i) j c (omega arith) (omega arith) in
    let n : length l1 ≡ length l = ap length g ∙ over-length l (take (j - i) k) i in
    let s : length (take (j - i) k) ≡ j - i = length-take-le (j - i) k c in
    let z : p - i ≤ length (k ++ k') = omega (arith, length-append k k') in
    f ∙
    ap (λ (z : List ℕ). take j l1 ++ xor (take (p - j) (drop j l1)) z ++ drop p l1) y ∙
    parts-of l1 k' j (p - j) p d (omega arith) (omega arith) ∙
    ap (λ (r : List ℕ). over r j (take (p - j) k')) g ∙
    join l (take (j - i) k) (take (p - j) k') i j (omega arith) ∙
    ap (over l i) (sym (cut k k' (j - i) (p - j) (p - i) (omega arith) c none)) ∙
    sym (parts-of l (k ++ k') i (p - i) p z (omega arith) fits)

-- a part of the stream f laid over a list that is under it so far
pub over-begun : (f : ℕ → ℕ) (j : ℕ) (l k : List ℕ) (i p : ℕ) → p ≡ i + length k → p ≤ length l
    → ((q : ℕ) → q < length k → get_or k q 0 ≡ f (j + i + q)) → over (begun f j l i) i k ≡ begun f j l p
unfolding over under
over-begun f j [] [] zero zero e h s = refl
over-begun f j [] [] zero (suc p) e h s = absurd (omega arith)
over-begun f j [] (y ∷ k) zero p e h s = absurd (omega arith)
over-begun f j [] k (suc i) p e h s = absurd (omega arith)
over-begun f j (x ∷ l) [] zero zero e h s = refl
over-begun f j (x ∷ l) [] zero (suc p) e h s = absurd (omega arith)
over-begun f j (x ∷ l) (y ∷ k) zero zero e h s = absurd (omega arith)
over-begun f j (x ∷ l) (y ∷ k) zero (suc p) e h s =
    let a : j + 0 + 0 ≡ j = omega arith in
    ap₂ (λ (a : ℕ) (r : List ℕ). bit_xor x a ∷ r) (s 0 (omega arith) ∙ ap f a)
    (over-begun f (suc j) l k zero p (omega arith) (omega arith)
    (λ q h. let b : j + 0 + suc q ≡ suc j + 0 + q = omega arith in s (suc q) (omega arith) ∙ ap f b))
over-begun f j (x ∷ l) k (suc i) zero e h s = absurd (omega arith)
over-begun f j (x ∷ l) k (suc i) (suc p) e h s =
    ap (λ (r : List ℕ). bit_xor x (f j) ∷ r)
    (over-begun f (suc j) l k i p (omega arith) (omega arith)
    (λ q h. let b : j + suc i + q ≡ suc j + i + q = omega arith in s q h ∙ ap f b))

abbrev pub laid : List ℕ → ℕ → List ℕ → ℕ → List ℕ
laid l i k n = take i l ++ xor (take n (drop i l)) k ++ drop (i + n) l

pub joined : (l l1 l2 k k' : List ℕ) (i n n' : ℕ) → n ≡ length k → n' ≡ length k' → i + n + n' ≤ length l
    → l1 ≡ laid l i k n → l2 ≡ laid l1 (i + n) k' n' → l2 ≡ laid l i (k ++ k') (n + n')
joined l l1 l2 k k' i n n' p q h e f =
    let a : l1 ≡ over l i k = e ∙ parts l k i n (i + n) p refl (omega arith) in
    let m : length l1 ≡ length l = ap length a ∙ over-length l k i in
    let s : n + n' ≡ length (k ++ k') = omega (arith, length-append k k') in
    f ∙
    parts l1 k' (i + n) n' (i + n + n') q refl (omega arith) ∙
    ap (λ (z : List ℕ). over z (i + n) k') a ∙
    join l k k' i (i + n) (omega arith) ∙
    sym (parts l (k ++ k') i (n + n') (i + (n + n')) s refl (omega arith))

-- four stores
pub stored : (l k : List ℕ) (i : ℕ) → i + 3 < length l
    → set
    (set
    (set (set l i (bit_xor (get_or l i 0) (get_or k 0 0))) (i + 1) (bit_xor (get_or l (i + 1) 0) (get_or k 1 0)))
    (i + 2)
    (bit_xor (get_or l (i + 2) 0) (get_or k 2 0)))
    (i + 3)
    (bit_xor (get_or l (i + 3) 0) (get_or k 3 0))
    ≡ laid l i (four (λ j. get_or k j 0)) 4
stored l k i h =
    let f : (ℕ → ℕ) = λ j. bit_xor (get_or l (i + j) 0) (get_or k j 0) in
    let vs : List ℕ =
    bit_xor (get_or l i 0) (get_or k 0 0) ∷ bit_xor (get_or l (i + 1) 0) (get_or k 1 0) ∷ bit_xor (get_or l (i + 2) 0) (get_or k 2 0) ∷
    bit_xor (get_or l (i + 3) 0) (get_or k 3 0) ∷ [] in
    let d : List ℕ = take 4 (drop i l) in
    let n : length d ≡ 4 = simp (length-take, length-drop) (omega arith) in
    let ks : List ℕ = four (λ j. get_or k j 0) in
    let e : sets l i vs ≡ take i l ++ vs ++ drop (i + 4) l = sets-eq vs l i (omega arith) in
    let u : four f ≡ vs = rw add-zero in
    let v : four f ≡ xor d ks =
    by-places f 4 (xor d ks) (xor-length d ks (omega arith) ∙ n)
    (λ j p.
    xor-at d ks j (omega arith) p ∙
    ap₂ bit_xor (get_or-take 4 (drop i l) j 0 p ∙ get_or-drop i l j 0) (table_at (λ j. get_or k j 0) 4 j p)) in
    simp towards_suc (simp towards_suc at e) ∙ ap (λ (z : List ℕ). take i l ++ z ++ drop (i + 4) l) (sym u ∙ v)

module _ (ciph : List ℕ → List ℕ) (sized : (b : List ℕ) → length (ciph b) ≡ 16) (t : List ℕ) where
  in_block : (n i q : ℕ) → i ≡ n * 16 → q < 16 → get_or (ciph (counter t n)) q 0 ≡ octet ciph sized t (0 + i + q)
  unfolding octet
  in_block n i q a g =
      let d : (0 + i + q) / 16 ≡ n = omega arith in
      let r : (0 + i + q) % 16 ≡ q = omega arith in
      rw (d, r)

  -- one block more
  turn_one : (m l : List ℕ) (n i p : ℕ) → i ≡ n * 16 → p ≡ i + 16 → p ≤ length m → l ≡ ciphered ciph sized t m i
      → over l i (ciph (counter t n)) ≡ ciphered ciph sized t m p
  turn_one m l n i p a b h e =
      let k = ciph (counter t n) in
      ap (λ (z : List ℕ). over z i k) e ∙
      over-begun (octet ciph sized t) 0 m k i p (omega (arith, sized (counter t n))) h
      (λ q g. in_block n i q a (omega (arith, sized (counter t n))))

  pub turn-block : (m l l' : List ℕ) (i : ℕ) → i % 16 ≡ 0 → i + 16 ≤ length m → length l ≡ length m → l ≡ ciphered ciph sized t m i
      → l' ≡ laid l i (ciph (counter t (i / 16))) 16 → l' ≡ ciphered ciph sized t m (i + 16)
  turn-block m l l' i z h g e f =
      let k = ciph (counter t (i / 16)) in
      let s : 16 ≡ length k = sym (sized (counter t (i / 16))) in
      f ∙
      parts l k i 16 (i + 16) s refl (omega arith) ∙
      turn_one m l (i / 16) i (i + 16) (omega arith) refl h e

  in_two : (k k' : List ℕ) (n i s q : ℕ) → i ≡ n * 16 → s ≤ 32 → k ≡ ciph (counter t n) → (16 < s → k' ≡ ciph (counter t (n + 1))) → q < s
      → get_or (k ++ k') q 0 ≡ octet ciph sized t (0 + i + q)
  in_two k k' n i s q a b e f g = go (dec_lt q 16)
    where
      u : length k ≡ 16
      u = ap length e ∙ sized (counter t n)

      go : Dec (q < 16) → get_or (k ++ k') q 0 ≡ octet ciph sized t (0 + i + q)
      go (yes h) = get_or-append k k' 0 q (omega (arith, u)) ∙ ap (λ (z : List ℕ). get_or z q 0) e ∙ in_block n i q a h
      go (no h) =
          let x : q ≡ length k + (q - 16) = omega (arith, u) in
          let y : 0 + (i + 16) + (q - 16) ≡ 0 + i + q = omega arith in
          ap (λ (z : ℕ). get_or (k ++ k') z 0) x ∙
          get_or-append-add k k' (q - 16) 0 ∙
          ap (λ (z : List ℕ). get_or z (q - 16) 0) (f (omega arith)) ∙
          in_block (n + 1) (i + 16) (q - 16) (omega arith) (omega arith) ∙
          ap (octet ciph sized t) y

  -- r octets of two blocks more: what stands for the second one matters only where they reach into it
  pub more : (m l k k' : List ℕ) (n i r p : ℕ) → i ≡ n * 16 → p ≡ i + r → r ≤ 32 → p ≤ length l → k ≡ ciph (counter t n) → length k' ≡ 16
      → (16 < r → k' ≡ ciph (counter t (n + 1))) → l ≡ ciphered ciph sized t m i
      → take i l ++ xor (take r (drop i l)) (k ++ k') ++ drop p l ≡ ciphered ciph sized t m p
  more m l k k' n i r p a b c d e u f h =
      let s : r ≤ length (k ++ k') = omega (arith, length-append k k', ap length e, sized (counter t n)) in
      let g : length l ≡ length m = ap length h ∙ begun-length (octet ciph sized t) 0 m i in
      let v : length (take r (k ++ k')) ≡ r = length-take-le r (k ++ k') s in
      parts-of l (k ++ k') i r p s b d ∙
      ap (λ (z : List ℕ). over z i (take r (k ++ k'))) h ∙
      over-begun (octet ciph sized t) 0 m (take r (k ++ k')) i p (omega arith) (omega arith)
      (λ q x.
      let y : q < r = omega (arith, x, v) in
      get_or-take r (k ++ k') q 0 y ∙ in_two k k' n i r q a c e f y)
