-- The rows of an array of arrays of octets, from what owning it tells.
-- Assumes nothing.
use mathlib.Core.Path.{◌≡◌}
use mathlib.Core.List.{List, [], ◌∷◌}
use Prim.Native.Nat.{ℕ, zero, suc, ◌<◌}
use native.Mathlib.Omega.{arith}
use native.Mathlib.Nat.{le_of_suc-le-suc, not-suc-le-zero}
use lib.ListN.{length, get_or}
use mir.Val.{Val}
use mir.Syntax.{w8}
use denote.Shadow.{shadow}
use denote.Array.{Array, each}
use denote.Plain.{UInt}

row-length : (n : ℕ) (xs : List (List ℕ)) (us : List Val) (i : ℕ) → i < length xs
    → shadow (each (List ℕ) (Array (UInt w8) n).own_val xs us) → length (get_or xs i []) ≡ n
row-length n [] us i h p = absurd (not-suc-le-zero h)
row-length n (x ∷ xs) [] i h p = absurd p
row-length n (x ∷ xs) (u ∷ us) zero h p = p.0.1.0.1
row-length n (x ∷ xs) (u ∷ us) (suc i) h p = row-length n xs us i (le_of_suc-le-suc h) p.1

pub columns-four : (s : List (List ℕ)) (us : List Val) → length s ≡ 4 → shadow (each (List ℕ) (Array (UInt w8) 4).own_val s us)
    → (c : ℕ) → c < 4 → length (get_or s c []) ≡ 4
columns-four s us n p c h = let l : c < length s = omega arith in row-length 4 s us c l p
