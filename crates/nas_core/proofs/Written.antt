-- A payload of n octets lent at f, then the five octets before it and the payload lent at a: what the whole list is when both are back.
use mathlib.Core.Path.{◌≡◌, ap, sym, ◌∙◌}
use mathlib.Core.List.{List, ◌++◌, append_assoc}
use Prim.Native.Nat.{ℕ, ◌+◌, ◌-◌, ◌≤◌}
use native.Mathlib.Omega.{arith}
use lib.ListN.{length, take, drop, length-append, length-take, length-drop}
use lib.Seq.{take_at, drop_at, drop-append-le, take-append-add, drop-append-add, sets}
use Rattle.nas_core.proofs.Octets.{stored}
use borrow.Rule.Slice.PartMut.{put_mid, Post-is}

module _ (a f e n : ℕ) (xs ys : List ℕ) (hf : f ≡ a + 5) (he : e ≡ f + n) (room : e ≤ length xs) (many : length ys ≡ n) where
  -- from a on: five octets, the payload, what follows
  from : drop a (put_mid f (e - f) xs ys) ≡ drop a (take f xs) ++ (ys ++ drop e xs)
  from =
      drop-append-le a (take f xs) (ys ++ drop (e - f) (drop f xs)) (simp length-take (omega arith))
      ∙ ap (λ (z : List ℕ). drop a (take f xs) ++ (ys ++ z)) (Post-is f e xs (omega arith))

  five : length (drop a (take f xs)) ≡ 5
  five = simp (length-drop, length-take) (omega arith)

  far : e - a ≡ length (drop a (take f xs)) + n
  far = omega (arith, five)

  pub mid-length : length (put_mid f (e - f) xs ys) ≡ length xs
  mid-length = simp (length-append, length-take, length-drop) (omega arith)

  -- the payload that the code is made of
  pub inside : drop 5 (take (e - a) (drop a (put_mid f (e - f) xs ys))) ≡ ys
  inside =
      let h = drop a (take f xs) in
      ap (λ (z : List ℕ). drop 5 (take (e - a) z)) from
      ∙ ap (λ (k : ℕ). drop 5 (take k (h ++ (ys ++ drop e xs)))) far
      ∙ ap (λ (z : List ℕ). drop 5 z) (take-append-add h (ys ++ drop e xs) n ∙ ap (λ (z : List ℕ). h ++ z) (take_at ys (drop e xs) n many))
      ∙ drop_at h ys 5 five

  -- what follows
  pub after : drop (e - a) (drop a (put_mid f (e - f) xs ys)) ≡ drop e xs
  after =
      let h = drop a (take f xs) in
      ap (λ (z : List ℕ). drop (e - a) z) from
      ∙ ap (λ (k : ℕ). drop k (h ++ (ys ++ drop e xs))) far
      ∙ drop-append-add h (ys ++ drop e xs) n
      ∙ drop_at ys (drop e xs) n many

  -- with what was made of the payload, and the header stored in front
  pub sealed : (header zs made : List ℕ) → length header ≡ a → zs ≡ made → length made ≡ 5 + n
      → sets (put_mid a (e - a) (put_mid f (e - f) xs ys) zs) 0 header ≡ header ++ made ++ drop (length (header ++ made)) xs
  sealed header zs made h z l =
      let w = put_mid f (e - f) xs ys in
      let long : length (take a w) ≡ length header = simp length-take (omega (arith, mid-length)) in
      let fits : length header ≤ length (put_mid a (e - a) w zs) = simp length-append (omega arith) in
      let far : e ≡ length (header ++ made) = simp length-append (omega arith) in
      stored header (put_mid a (e - a) w zs) fits
      ∙ ap (λ (q : List ℕ). header ++ q) (drop_at (take a w) (zs ++ drop (e - a) (drop a w)) (length header) long ∙ ap (λ (q : List ℕ). zs ++ q) after ∙ ap (λ (q : List ℕ). q ++ drop e xs) z)
      ∙ sym (append_assoc header made (drop e xs))
      ∙ ap (λ (k : ℕ). header ++ made ++ drop k xs) far
