-- What lies behind the first a octets lent as `&mut m[a..]`, and what is made of it back in its place.
use Rattle.std.proofs.Common.{◌≡◌, ℕ, suc, ◌+◌, ◌-◌, ◌≤◌, List, [], ◌∷◌, ◌++◌, length, get_or, take, drop, sym, refl, ap, ◌∙◌, append-nil, arith, length-append, length-drop, drop_of_length-le, length-take, take_all}
use borrow.Rule.Slice.PartMut.{put_mid, same_len_mid}
use Rattle.std.proofs.lemmas.Slice.{take-put_mid}

nothing : (l : List ℕ) → length l ≡ 0 → l ≡ []
nothing [] e = refl
nothing (x ∷ l) e = absurd (omega arith)

-- the last k of a list, written over
pub put_end : (a k : ℕ) (xs ys : List ℕ) → length xs ≡ a + k → length ys ≡ k → put_mid a k xs ys ≡ take a xs ++ ys
put_end a k xs ys h e =
    let n : length ys ≡ length (take k (drop a xs)) = simp (length-take, length-drop) (omega arith) in
    let o : length (put_mid a k xs ys) ≤ a + k = omega (arith, same_len_mid a k xs ys n, h) in
    sym (take_all (a + k) (put_mid a k xs ys) o) ∙ take-put_mid a k xs ys (a + k) (omega arith) (omega arith)

pub behind : (a : ℕ) (m zs : List ℕ) (f : List ℕ → List ℕ) → zs ≡ f (take (length m - a) (drop a m)) → put_mid a (length m - a) m zs ≡ take a m ++ f (drop a m)
behind a m zs f e =
    let h : length (drop a m) ≤ length m - a = simp length-drop (omega arith) in
    ap (λ (z : List ℕ). take a m ++ z) (ap (λ (z : List ℕ). zs ++ z) (drop_of_length-le (drop a m) h) ∙ append-nil zs ∙ e ∙ ap f (take_all (length m - a) (drop a m) h))

pub first-behind : (h m zs : List ℕ) → 1 ≤ length m → h ++ get_or m 0 0 ∷ zs ≡ h ++ put_mid 1 (length m - 1) m zs
first-behind h m zs p = ap (λ (z : List ℕ). h ++ z) (ap (λ (z : List ℕ). z ++ zs) (one m p) ∙ sym (behind 1 m zs (λ (z : List ℕ). zs) refl))
  where
    one : (m : List ℕ) → 1 ≤ length m → get_or m 0 0 ∷ [] ≡ take 1 m
    one [] p = absurd (omega arith)
    one (x ∷ m) p = refl

pub lent_length : (m zs : List ℕ) → 1 ≤ length m → length (put_mid 1 (length m - 1) m zs) ≡ suc (length zs)
lent_length m zs p = sym (ap length (first-behind [] m zs p))

-- what changes all but the first octet, and no length
module _ (f : List ℕ → List ℕ) (sized : (l : List ℕ) → length (f l) ≡ length l) where
  pub same_length : (m : List ℕ) → length (take 1 m ++ f (drop 1 m)) ≡ length m
  same_length m = let n = sized (drop 1 m) in simp (length-append, length-take) (omega (arith, n, length-drop 1 m))

  -- nothing is behind one octet
  pub short : (m : List ℕ) → length m ≤ 1 → m ≡ take 1 m ++ f (drop 1 m)
  short [] p = sym (nothing (f []) (sized []))
  short (x ∷ []) p = ap (λ (l : List ℕ). x ∷ l) (sym (nothing (f []) (sized [])))
  short (x ∷ y ∷ m) p = absurd (omega arith)
