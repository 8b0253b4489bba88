-- Laws for the key expansion: a word that is written behind the others is one word more.
-- Assumes nothing.
use mathlib.Core.Path.{◌≡◌, ap₂, ◌∙◌, sym}
use mathlib.Core.List.{List, ◌++◌}
use Prim.Native.Nat.{ℕ, ◌+◌, ◌*◌, ◌<◌}
use native.Mathlib.Omega.{arith}
use native.Mathlib.Numerals.{add-one}
use lib.ListN.{take}
use lib.Seq.{get_or-take}
use Rattle.aes_block.specs.Cipher.{word, next_word, words}

-- a word lies in the words before a later one
word-take : (n i : ℕ) (l : List ℕ) → i < n → word (take (n * 4) l) i ≡ word l i
unfolding word
word-take n i l h =
    let h0 : i * 4 + 0 < n * 4 = omega arith in
    let h1 : i * 4 + 1 < n * 4 = omega arith in
    let h2 : i * 4 + 2 < n * 4 = omega arith in
    let h3 : i * 4 + 3 < n * 4 = omega arith in
    simp get_or-take

next-take : (n : ℕ) (l : List ℕ) → next_word (take ((n + 4) * 4) l) n ≡ next_word l n
unfolding next_word
next-take n l =
    let h0 : n < n + 4 = omega arith in
    let h1 : n + 3 < n + 4 = omega arith in
    simp word-take

-- one turn of the loop
pub more : (key l t : List ℕ) (n : ℕ) → take (n * 4 + 16) l ≡ words key n → t ≡ next_word l n → take (n * 4 + 16) l ++ t ≡ words key (n + 1)
unfolding words
more key l t n i e =
    let g : (n + 4) * 4 ≡ n * 4 + 16 = omega arith in
    let k : next_word (words key n) n ≡ next_word l n = rw (← i, ← g) (next-take n l) in
    rw add-one (ap₂ ◌++◌ i (e ∙ sym k))
