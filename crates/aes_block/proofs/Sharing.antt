-- What blocks that differ in the last octet alone share of the first two rounds.
-- Assumes nothing.
use mathlib.Core.Path.{◌≡◌, refl, ap, ap₂, sym, ◌∙◌}
use mathlib.Core.List.{List, [], ◌∷◌, ◌++◌, zip_with}
use Prim.Native.Nat.{ℕ, ◌+◌, ◌-◌, ◌*◌, ◌%◌}
use lib.Bits.{bit_xor}
use lib.ListN.{length, take, get_or}
use Rattle.aes_block.specs.Octets.{four, sixteen, xor}
use Rattle.aes_block.specs.Field.{sbox}
use Rattle.aes_block.specs.Cipher.{cell, to_state, word, add_round_key, mix_columns, shift_rows, sub_bytes, rounds}
use Rattle.aes_block.specs.Mix.{row, two_rounds, Shared}
use Rattle.aes_block.proofs.Lists.{four-by, itself}
use Rattle.aes_block.proofs.Rounds.{round}
use Rattle.aes_block.proofs.Mix.{under-key, exchange-0, exchange-1, exchange-2, exchange-3}

-- a round, column by column
abbrev columns_of : List ℕ → ℕ → List (List ℕ) → List (List ℕ)
columns_of w n s =
    four (λ c. under-key (sbox (cell s c 0)) (sbox (cell s ((c + 1) % 4) 1)) (sbox (cell s ((c + 2) % 4) 2)) (sbox (cell s ((c + 3) % 4) 3)) (word w (n * 4 + c)))

by-columns : (w : List ℕ) (n : ℕ) (s : List (List ℕ)) → round w n s ≡ columns_of w n s
unfolding add_round_key mix_columns shift_rows sub_bytes under-key
by-columns w n s = refl

word-length : (w : List ℕ) (i : ℕ) → length (word w i) ≡ 4
unfolding word
word-length w i = refl

-- the five columns, of a state s under its key, a after round 1 and c after round 2
abbrev pub taken_out : List (List ℕ) → List (List ℕ) → List (List ℕ) → List (List ℕ)
taken_out s a c =
    xor (get_or a 0 []) (row 3 (sbox (cell s 3 3))) ∷ xor (get_or c 0 []) (row 0 (sbox (cell a 0 0))) ∷ xor (get_or c 1 []) (row 3 (sbox (cell a 0 3))) ∷
    xor (get_or c 2 []) (row 2 (sbox (cell a 0 2))) ∷ xor (get_or c 3 []) (row 1 (sbox (cell a 0 1))) ∷ []

module _ (w : List ℕ) where
  first_round : (p q u : List ℕ) (x y z d v : ℕ)
      → xor (xor (get_or (columns_of w 1 (p ∷ q ∷ u ∷ (x ∷ y ∷ z ∷ d ∷ []) ∷ [])) 0 []) (row 3 (sbox d))) (row 3 (sbox v))
      ≡ get_or (columns_of w 1 (p ∷ q ∷ u ∷ (x ∷ y ∷ z ∷ v ∷ []) ∷ [])) 0 []
  first_round p q u x y z d v = exchange-3 (sbox (get_or p 0 0)) (sbox (get_or q 1 0)) (sbox (get_or u 2 0)) (sbox d) (sbox v) (word w 4) (word-length w 4)

  second-round : (a x p q u : List ℕ)
      → four (λ c. xor (xor (get_or (columns_of w 2 (a ∷ p ∷ q ∷ u ∷ [])) c []) (row ((4 - c) % 4) (sbox (get_or a ((4 - c) % 4) 0)))) (row ((4 - c) % 4) (sbox (get_or x ((4 - c) % 4) 0))))
      ≡ columns_of w 2 (x ∷ p ∷ q ∷ u ∷ [])
  second-round a x p q u =
      let s : (List ℕ → ℕ → ℕ) = λ l i. sbox (get_or l i 0) in
      four-by
      (exchange-0 (s a 0) (s p 1) (s q 2) (s u 3) (s x 0) (word w 8) (word-length w 8))
      (exchange-3 (s p 0) (s q 1) (s u 2) (s a 3) (s x 3) (word w 9) (word-length w 9))
      (exchange-2 (s q 0) (s u 1) (s a 2) (s p 3) (s x 2) (word w 10) (word-length w 10))
      (exchange-1 (s u 0) (s a 1) (s p 2) (s q 3) (s x 1) (word w 11) (word-length w 11))

  both-rounds : (s : List (List ℕ)) (a p q u : List ℕ) (v : ℕ)
      → two_rounds (taken_out s (a ∷ p ∷ q ∷ u ∷ []) (columns_of w 2 (a ∷ p ∷ q ∷ u ∷ []))) v
      ≡ columns_of w 2 (xor (xor a (row 3 (sbox (cell s 3 3)))) (row 3 (sbox v)) ∷ p ∷ q ∷ u ∷ [])
  unfolding two_rounds
  both-rounds s a p q u v = second-round a (xor (xor a (row 3 (sbox (cell s 3 3)))) (row 3 (sbox v))) p q u

  two-rounds : (p q u : List ℕ) (x y z d v : ℕ)
      → (let s = p ∷ q ∷ u ∷ (x ∷ y ∷ z ∷ d ∷ []) ∷ [] in
      two_rounds (taken_out s (columns_of w 1 s) (columns_of w 2 (columns_of w 1 s))) v) ≡ columns_of w 2 (columns_of w 1 (p ∷ q ∷ u ∷ (x ∷ y ∷ z ∷ v ∷ []) ∷ []))
  two-rounds p q u x y z d v =
      let s : List (List ℕ) = p ∷ q ∷ u ∷ (x ∷ y ∷ z ∷ d ∷ []) ∷ [] in
      let a : (ℕ → List ℕ) = λ c. get_or (columns_of w 1 s) c [] in
      both-rounds s (a 0) (a 1) (a 2) (a 3) v ∙
      ap (λ (l : List ℕ). columns_of w 2 (l ∷ a 1 ∷ a 2 ∷ a 3 ∷ [])) (first_round p q u x y z d v)

  of-sixteen : (f : ℕ → ℕ) (s : List (List ℕ)) → s ≡ add_round_key w 0 (to_state (sixteen f))
      → Shared w (sixteen f) (taken_out s (columns_of w 1 s) (columns_of w 2 (columns_of w 1 s)))
  unfolding add_round_key to_state word zip_with rounds
  of-sixteen f s e o =
      let k : (ℕ → ℕ → ℕ) = λ c r. bit_xor (f (r + 4 * c)) (get_or w (c * 4 + r) 0) in
      let v = bit_xor o (get_or w 15 0) in
      ap (λ (z : List (List ℕ)). two_rounds (taken_out z (columns_of w 1 z) (columns_of w 2 (columns_of w 1 z))) v) e ∙
      two-rounds (four (k 0)) (four (k 1)) (four (k 2)) (k 3 0) (k 3 1) (k 3 2) (k 3 3) v ∙
      ap (columns_of w 2) (sym (by-columns w 1 (add_round_key w 0 (to_state (take 15 (sixteen f) ++ (o ∷ [])))))) ∙
      sym (by-columns w 2 (round w 1 (add_round_key w 0 (to_state (take 15 (sixteen f) ++ (o ∷ []))))))

  pub sharing : (b : List ℕ) (s a c : List (List ℕ)) → length b ≡ 16 → s ≡ add_round_key w 0 (to_state b) → a ≡ round w 1 s → c ≡ round w 2 a
      → Shared w b (taken_out s a c)
  sharing b s a c h e f g o =
      let i : sixteen (λ j. get_or b j 0) ≡ b = itself 16 b h in
      let a' : a ≡ columns_of w 1 s = f ∙ by-columns w 1 s in
      let c' : c ≡ columns_of w 2 (columns_of w 1 s) = g ∙ by-columns w 2 a ∙ ap (columns_of w 2) a' in
      ap₂ (λ (x y : List (List ℕ)). two_rounds (taken_out s x y) (bit_xor o (get_or w 15 0))) a' c' ∙
      of-sixteen (λ j. get_or b j 0) s (e ∙ ap (λ (z : List ℕ). add_round_key w 0 (to_state z)) (sym i)) o ∙
      ap (λ (z : List ℕ). rounds w 2 (add_round_key w 0 (to_state (take 15 z ++ (o ∷ []))))) i
