-- States and their blocks; rounds in a row, of one state and of two side by side, and what they end in.
-- Assumes nothing.
use mathlib.Core.Path.{◌≡◌, refl, ap, sym, ◌∙◌}
use mathlib.Core.List.{List, [], ◌∷◌, ◌++◌, zip_with}
use Prim.Native.Nat.{ℕ, suc, ◌+◌, ◌<◌}
use native.Mathlib.Omega.{arith}
use lib.Dec.{lit<}
use lib.Bits.{bit_xor}
use lib.ListN.{length, get_or}
use Rattle.aes_block.specs.Octets.{four, xor}
use Rattle.aes_block.specs.Cipher.{cell, to_state, from_state, word, add_round_key, mix_columns, shift_rows, sub_bytes, rounds, cipher}
use Rattle.aes_block.specs.Mix.{onward, ended}
use Rattle.aes_block.proofs.Lists.{four-by, itself, xor-places}

pub back : (k : List ℕ) → length k ≡ 16 → from_state (to_state k) ≡ k
unfolding to_state from_state
back k h = itself 16 k h

pub square : (s : List (List ℕ)) → length s ≡ 4 → ((c : ℕ) → c < 4 → length (get_or s c []) ≡ 4) → to_state (from_state s) ≡ s
unfolding to_state from_state
square [] n h = absurd (omega arith)
square (a ∷ []) n h = absurd (omega arith)
square (a ∷ b ∷ []) n h = absurd (omega arith)
square (a ∷ b ∷ c ∷ []) n h = absurd (omega arith)
square (a ∷ b ∷ c ∷ d ∷ []) n h =
    four-by (itself 4 a (h 0 (lit< tt))) (itself 4 b (h 1 (lit< tt))) (itself 4 c (h 2 (lit< tt))) (itself 4 d (h 3 (lit< tt)))
square (a ∷ b ∷ c ∷ d ∷ e ∷ s) n h = absurd (omega arith)

pub xor-square : (a b : List (List ℕ)) → ((c : ℕ) → c < 4 → length (get_or a c []) ≡ 4) → ((c : ℕ) → c < 4 → length (get_or b c []) ≡ 4)
    → four (λ c. xor (get_or a c []) (get_or b c [])) ≡ to_state (xor (from_state a) (from_state b))
unfolding to_state from_state zip_with
xor-square a b g h = sym (four-by (column 0 (lit< tt)) (column 1 (lit< tt)) (column 2 (lit< tt)) (column 3 (lit< tt)))
  where
    column : (c : ℕ) → c < 4 → four (λ r. bit_xor (cell a c r) (cell b c r)) ≡ xor (get_or a c []) (get_or b c [])
    column c p = xor-places 4 (get_or a c []) (get_or b c []) (g c p) (h c p)

abbrev pub round : List ℕ → ℕ → List (List ℕ) → List (List ℕ)
round w n s = add_round_key w n (mix_columns (shift_rows (sub_bytes s)))

keyed : (w : List ℕ) (n : ℕ) (p s : List (List ℕ)) → s ≡ add_round_key w n p → four (λ c. get_or s c []) ≡ add_round_key w n p
unfolding add_round_key
keyed w n p s e = ap (λ (z : List (List ℕ)). four (λ c. get_or z c [])) e

-- the one and the other of two states that have got a round key
module _ (w v : List ℕ) (n : ℕ) (p q s : List (List ℕ)) (e : s ≡ add_round_key w n p ++ add_round_key v n q) where
  left-keyed : four (λ c. get_or s c []) ≡ add_round_key w n p
  unfolding add_round_key
  left-keyed = ap (λ (z : List (List ℕ)). four (λ c. get_or z c [])) e

  right-keyed : four (λ c. get_or s (c + 4) []) ≡ add_round_key v n q
  unfolding add_round_key
  right-keyed = ap (λ (z : List (List ℕ)). four (λ c. get_or z (c + 4) [])) e

module _ (w v : List ℕ) (p q s : List (List ℕ)) where
  pub left-of : s ≡ ended w p ++ ended v q → four (λ c. get_or s c []) ≡ ended w p
  unfolding ended
  left-of e = left-keyed w v 10 _ _ s e

  pub right_of : s ≡ ended w p ++ ended v q → four (λ c. get_or s (c + 4) []) ≡ ended v q
  unfolding ended
  right_of e = right-keyed w v 10 _ _ s e

  pub first : (n : ℕ) → s ≡ onward w (suc n) p ++ onward v (suc n) q → four (λ c. get_or s c []) ≡ onward w (suc n) p
  unfolding onward
  first n e = left-keyed w v (3 + n) _ _ s e

  pub second : (n : ℕ) → s ≡ onward w (suc n) p ++ onward v (suc n) q → four (λ c. get_or s (c + 4) []) ≡ onward v (suc n) q
  unfolding onward
  second n e = right-keyed w v (3 + n) _ _ s e

module _ (w : List ℕ) (n : ℕ) (p : List (List ℕ)) where
  pub one : (s : List (List ℕ)) → s ≡ round w (3 + n) (onward w n p) → four (λ c. get_or s c []) ≡ onward w (suc n) p
  unfolding onward
  one s e = keyed w (3 + n) _ s e

  pub three : (s a b c : List (List ℕ)) → s ≡ onward w n p → a ≡ round w (3 + n) s → b ≡ round w (3 + suc n) a → c ≡ round w (3 + suc (suc n)) b
      → four (λ i. get_or c i []) ≡ onward w (suc (suc (suc n))) p
  unfolding onward
  three s a b c h e f g =
      keyed w (3 + suc (suc n)) _ c (g ∙ ap (round w (3 + suc (suc n))) (f ∙ ap (round w (3 + suc n)) (e ∙ ap (round w (3 + n)) h)))

unmixed-back : (w : List ℕ) (n : ℕ) (s : List (List ℕ)) → to_state (from_state (add_round_key w n (shift_rows s))) ≡ add_round_key w n (shift_rows s)
unfolding to_state from_state add_round_key shift_rows word zip_with
unmixed-back w n s = refl

pub whole : (w : List ℕ) (s : List (List ℕ)) → s ≡ to_state (from_state s)
    → add_round_key w 10 (shift_rows (sub_bytes (rounds w 9 (add_round_key w 0 s)))) ≡ to_state (cipher w (from_state s))
unfolding cipher
whole w s e =
    sym (unmixed-back w 10 _) ∙
    ap (λ (z : List (List ℕ)). to_state (from_state (add_round_key w 10 (shift_rows (sub_bytes (rounds w 9 (add_round_key w 0 z))))))) e

pub state-end : (w : List ℕ) (s : List (List ℕ)) → s ≡ to_state (from_state s) → ended w (rounds w 2 (add_round_key w 0 s)) ≡ to_state (cipher w (from_state s))
unfolding ended onward rounds
state-end w s e = whole w s e

pub block-end : (w b : List ℕ) → from_state (ended w (rounds w 2 (add_round_key w 0 (to_state b)))) ≡ cipher w b
unfolding cipher ended onward rounds
block-end w b = refl
