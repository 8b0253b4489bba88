-- Laws for the code: the blocks of a message, its length in bits.
-- Assumes nothing.
use Rattle.std.proofs.Common.{◌≡◌, ℕ, ◌+◌, ◌-◌, ◌*◌, ◌%◌, ◌^◌, ◌<◌, ◌≤◌, List, [], ◌++◌, length, map, get_or, take, drop, replicate, sym, ap, ◌∙◌, arith, length-append, length-drop, length-take, get_or-drop, get_or-take}
use Rattle.std.proofs.lemmas.List.{get_or_append_left, get_or-append_right}
use Rattle.std.specs.Int.{w64, from_be_bytes}
use native.Mathlib.Decide.{dec_lt}
use lib.ListN.{get_or-eq_default}
use Rattle.streams.proofs.Bytes.{number-of8}
use Rattle.aes.specs.Octets.{below, number}
use Rattle.aes.proofs.Lists.{by-places}
use Rattle.aes.proofs.Mac.{zeros-behind}
use Rattle.snow3g.specs.Uia2.{block}

padded : (l : List ℕ) (k : ℕ) → map (λ j. get_or l (k + j) 0) (below 8) ≡ take 8 (drop k l ++ replicate 8 0)
padded l k =
    by-places (λ j. get_or l (k + j) 0) 8 (take 8 (drop k l ++ replicate 8 0)) (simp (length-take, length-append) (omega arith))
    (λ j p. get_or-take 8 (drop k l ++ replicate 8 0) j 0 p ∙ zeros-behind (drop k l) 8 j ∙ get_or-drop k l j 0)

pub block-eight : (l : List ℕ) (i : ℕ) → number (map (λ j. get_or l (i * 8 + j) 0) (below 8)) ≡ block l i
unfolding block
block-eight l i = ap number (padded l (i * 8))

-- the first n octets of the block, filled with zeros
pub block-filled : (l w : List ℕ) (i n : ℕ) → n ≤ 8 → i * 8 + n ≤ length l → (n < 8 → length l ≤ i * 8 + n) → w ≡ take n (drop (i * 8) l)
    → from_be_bytes w64 (w ++ drop n (replicate 8 0)) ≡ block l i
block-filled l w i n p long short e =
    ap (from_be_bytes w64) (sym (by-places f 8 (w ++ drop n (replicate 8 0)) (simp (length-append, length-drop) (omega (arith, h))) at)) ∙
    number-of8 (f 0) (f 1) (f 2) (f 3) (f 4) (f 5) (f 6) (f 7) ∙
    block-eight l i
  where
    h : length w ≡ n
    h = ap length e ∙ simp (length-take, length-drop) (omega arith)

    f : ℕ → ℕ
    f j = get_or l (i * 8 + j) 0

    at : (j : ℕ) → j < 8 → get_or (w ++ drop n (replicate 8 0)) j 0 ≡ f j
    at j q = go (dec_lt j n)
      where
        go : Dec (j < n) → get_or (w ++ drop n (replicate 8 0)) j 0 ≡ f j
        go (yes r) =
            get_or_append_left w (drop n (replicate 8 0)) 0 j (omega (arith, h)) ∙ ap (λ x. get_or x j 0) e ∙ get_or-take n (drop (i * 8) l) j 0 r ∙ get_or-drop (i * 8) l j 0
        go (no r) =
            get_or-append_right w (drop n (replicate 8 0)) n j 0 h (omega arith) ∙
            get_or-drop n (replicate 8 0) (j - n) 0 ∙
            zeros-behind [] 8 (n + (j - n)) ∙
            sym (get_or-eq_default l 0 (omega (arith, short (omega arith))))

pub bit_length : (n : ℕ) → n % 2 ^ 61 * 8 ≡ n * 8 % 2 ^ 64
bit_length n = omega arith
