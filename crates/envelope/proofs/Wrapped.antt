-- A payload of n octets lent at 7, then the header and the payload lent from the front on: what the whole list is when both are back.
use mathlib.Core.Path.{◌≡◌, ap, sym, ◌∙◌}
use mathlib.Core.List.{List, ◌++◌, append_assoc}
use Prim.Native.Nat.{ℕ, ◌+◌, ◌-◌, ◌≤◌}
use native.Mathlib.Omega.{arith}
use lib.ListN.{length, take, drop, length-append, length-take}
use lib.Seq.{take_at, drop_at, length-take-le}
use borrow.Rule.Slice.PartMut.{put_mid, Post-is}
use Rattle.nas_core.specs.Leaves.{over}

module _ (e n : ℕ) (xs ys : List ℕ) (he : e ≡ 7 + n) (room : e ≤ length xs) (many : length ys ≡ n) where
  laid : put_mid 7 (e - 7) xs ys ≡ (take 7 xs ++ ys) ++ drop e xs
  laid =
      ap (λ (z : List ℕ). take 7 xs ++ (ys ++ z)) (Post-is 7 e xs (omega arith)) ∙ sym (append_assoc (take 7 xs) ys (drop e xs))

  long : length (take 7 xs ++ ys) ≡ e
  long = simp (length-append, length-take) (omega arith)

  front : take e (put_mid 7 (e - 7) xs ys) ≡ take 7 xs ++ ys
  front = ap (take e) laid ∙ take_at (take 7 xs ++ ys) (drop e xs) e long

  pub front_length : e ≡ length (take e (put_mid 7 (e - 7) xs ys))
  front_length = sym (ap length front ∙ long)

  -- the payload that is wrapped
  pub behind : drop 7 (take e (put_mid 7 (e - 7) xs ys)) ≡ ys
  behind = ap (drop 7) front ∙ drop_at (take 7 xs) ys 7 (length-take-le 7 xs (omega arith))

  -- with what was made of it
  pub wrapped : (zs made : List ℕ) → zs ≡ made → length made ≡ e → zs ++ drop e (put_mid 7 (e - 7) xs ys) ≡ over made xs
  wrapped zs made z l =
      ap (λ (q : List ℕ). zs ++ q) (ap (drop e) laid ∙ drop_at (take 7 xs ++ ys) (drop e xs) e long)
      ∙ ap (λ (q : List ℕ). q ++ drop e xs) z
      ∙ ap (λ (k : ℕ). made ++ drop k xs) (sym l)
