-- Octets of a list: stored one by one, written to the front of an output, and four compared as one number.
use mathlib.Core.Path.{◌≡◌, refl, ap, sym, ◌∙◌}
use mathlib.Core.Bool.{Bool, true, false, ◌&&◌}
use mathlib.Core.List.{List, [], ◌∷◌, ◌++◌, append_assoc, append-nil}
use Prim.Native.Nat.{ℕ, ◌+◌, ◌*◌, ◌-◌, ◌≤◌, ◌<◌}
use native.Mathlib.Omega.{arith}
use lib.ListN.{length, take, drop, get_or, length-drop, drop_of_length-le}
use lib.Seq.{take_all, sets, sets-eq, drop_at, length-take-le}
use lib.Dec.{eqb}
use borrow.Rule.Slice.PartMut.{put_mid}
use borrow.Author.Tests.{eq-eqb, ne_eqb, eqb-true, eqb-false}
use Rattle.nas_core.specs.Leaves.{over}
use Rattle.nas_core.specs.Verify.{same}

-- a list of four, octet by octet
pub four : (k : List ℕ) → length k ≡ 4 → k ≡ get_or k 0 0 ∷ get_or k 1 0 ∷ get_or k 2 0 ∷ get_or k 3 0 ∷ []
four (a ∷ b ∷ c ∷ d ∷ []) e = refl
four [] e = absurd (omega arith)
four (a ∷ []) e = absurd (omega arith)
four (a ∷ b ∷ []) e = absurd (omega arith)
four (a ∷ b ∷ c ∷ []) e = absurd (omega arith)
four (a ∷ b ∷ c ∷ d ∷ f ∷ l) e = absurd (omega arith)

-- stores in a row, in front and behind four octets
pub stored : (vs xs : List ℕ) → length vs ≤ length xs → sets xs 0 vs ≡ vs ++ drop (length vs) xs
stored vs xs h =
    let z : 0 + length vs ≡ length vs = omega arith in
    sets-eq vs xs 0 (omega arith) ∙ ap (λ (k : ℕ). vs ++ drop k xs) z

pub stored-behind : (vs xs : List ℕ) → 4 + length vs ≤ length xs → drop 4 (sets xs 4 vs) ≡ vs ++ drop (4 + length vs) xs
stored-behind vs xs h =
    ap (λ (z : List ℕ). drop 4 z) (sets-eq vs xs 4 h ∙ append_assoc (take 4 xs) vs (drop (4 + length vs) xs))
    ∙ drop_at (take 4 xs) (vs ++ drop (4 + length vs) xs) 4 (length-take-le 4 xs (omega arith))

-- what `&m[n..]` shows is the rest from n on
pub rest : (n : ℕ) (m : List ℕ) → take (length m - n) (drop n m) ≡ drop n m
rest n m =
    let h : length (drop n m) ≤ length m - n = simp length-drop (omega arith) in take_all (length m - n) (drop n m) h

-- and what `&mut m[n..]` left there is the rest again
pub rest_back : (n : ℕ) (m ys : List ℕ) → n ≤ length m → drop n (put_mid n (length m - n) m ys) ≡ ys
rest_back n m ys h =
    let none : length (drop n m) ≤ length m - n = simp length-drop (omega arith) in
    drop_at (take n m) (ys ++ drop (length m - n) (drop n m)) n (length-take-le n m h)
    ∙ ap (λ (z : List ℕ). ys ++ z) (drop_of_length-le (drop n m) none)
    ∙ append-nil ys

-- two parts, each equal
pub joined : {k k' z z' : List ℕ} → k ≡ k' → z ≡ z' → k ++ z ≡ k' ++ z'
joined e f = cc

-- octets over the front of an output, by how many there are
pub over-front : (n : ℕ) (ys p out : List ℕ) → ys ≡ p → length ys ≡ n → ys ++ drop n out ≡ over p out
over-front n ys p out y l = let m : n ≡ length p = sym l ∙ ap (λ (q : List ℕ). length q) y in simp (y, m)

abbrev word : ℕ → ℕ → ℕ → ℕ → ℕ
word a b c d = a * 16777216 + b * 65536 + c * 256 + d

-- four octets are those of another four where the numbers are equal
pub compared : (a b c d e f g h : ℕ) → a < 256 → b < 256 → c < 256 → d < 256 → e < 256 → f < 256 → g < 256 → h < 256
    → eqb (word a b c d) (word e f g h) ≡ same (a ∷ b ∷ c ∷ d ∷ []) (e ∷ f ∷ g ∷ h ∷ [])
compared a b c d e f g h pa pb pc pd pe pf pg ph = go (eqb a e) (eqb b f) (eqb c g) (eqb d h) refl refl refl refl
  where
    go : (p q r s : Bool) → eqb a e ≡ p → eqb b f ≡ q → eqb c g ≡ r → eqb d h ≡ s
        → eqb (word a b c d) (word e f g h) ≡ p && (q && (r && (s && true)))
    go false q r s p1 q1 r1 s1 = ne_eqb _ _ (λ (w : word a b c d ≡ word e f g h). eqb-false a e p1 (omega arith))
    go true false r s p1 q1 r1 s1 = ne_eqb _ _ (λ (w : word a b c d ≡ word e f g h). eqb-false b f q1 (omega arith))
    go true true false s p1 q1 r1 s1 = ne_eqb _ _ (λ (w : word a b c d ≡ word e f g h). eqb-false c g r1 (omega arith))
    go true true true false p1 q1 r1 s1 = ne_eqb _ _ (λ (w : word a b c d ≡ word e f g h). eqb-false d h s1 (omega arith))
    go true true true true p1 q1 r1 s1 =
        let x = eqb-true a e p1 in
        let y = eqb-true b f q1 in
        let z = eqb-true c g r1 in
        let u = eqb-true d h s1 in
        let w : word a b c d ≡ word e f g h = cc in
        eq-eqb _ _ w
