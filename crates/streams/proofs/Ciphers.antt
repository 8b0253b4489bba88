-- Ciphering under the words of a machine: what a loop over the words has done after n of them, and what the layers above rely on.
-- Assumes nothing.
use mathlib.Core.Path.{◌≡◌, refl, ap, ap₂, sym, ◌∙◌}
use mathlib.Core.List.{List, append-nil}
use Prim.Native.Nat.{ℕ, zero, suc, ◌+◌, ◌*◌, ◌/◌, ◌%◌, ◌<◌, ◌≤◌}
use native.Mathlib.Omega.{arith}
use native.Mathlib.Nat.{add-zero, zero-add, add-suc}
use lib.Dec.{lit≤}
use lib.ListN.{length, take, get_or, drop_of_length-le}
use lib.Seq.{take_all}
use Rattle.aes.specs.Octets.{octets}
use Rattle.aes.specs.Laws.{Octets}
use Rattle.aes.proofs.Stream.{under, begun, one_more, under-xor}
use Rattle.streams.specs.Stream.{after, words, octets_of, enciphered}
use Rattle.streams.specs.Covers.{covered}
use Rattle.streams.proofs.Under.{octets-octets, under-length, under_twice, under-take, under-octets}
use Rattle.streams.proofs.Words.{octets-length, after-step, words-length}

module _ {S : Type 0} (step : S → S) (word : S → ℕ) (x : S) where
  -- octet i of the stream
  unfoldable pub octet : ℕ → ℕ
  octet i = get_or (octets 4 (word (after step (i / 4) x))) (i % 4) 0

  octet-octet : (i : ℕ) → octet i < 256
  unfolding octet
  octet-octet i = octets-octets 4 (word (after step (i / 4) x)) (i % 4)

  -- the octets l with the first i ciphered
  abbrev pub ciphered : List ℕ → ℕ → List ℕ
  ciphered l i = begun octet 0 l i

  pub none : (l : List ℕ) → l ≡ ciphered l 0
  unfolding under
  none l = refl

  at-word : (k : List ℕ) (n j : ℕ) → k ≡ octets 4 (word (after step n x)) → (n * 4 + j) / 4 ≡ n → (n * 4 + j) % 4 ≡ j
      → get_or k j 0 ≡ octet (0 + (n * 4 + j))
  unfolding octet
  at-word k n j e d r = rw (zero-add (n * 4 + j), d, r, e)

  -- j octets of word n
  turn : (l k : List ℕ) (n : ℕ) → k ≡ octets 4 (word (after step n x)) → (j : ℕ) → j ≤ 4 → n * 4 + j ≤ length l
      → covered (ciphered l (n * 4)) (n * 4) k j ≡ ciphered l (n * 4 + j)
  unfolding covered
  turn l k n e zero p q = rw add-zero
  turn l k n e (suc j) p q =
      let d : (n * 4 + j) / 4 ≡ n = omega arith in
      let r : (n * 4 + j) % 4 ≡ j = omega arith in
      let o : get_or k j 0 ≡ octet (0 + (n * 4 + j)) = at-word k n j e d r in
      let ih : covered (ciphered l (n * 4)) (n * 4) k j ≡ ciphered l (n * 4 + j) = turn l k n e j (omega arith) (omega arith) in
      rw (ih, o, add-suc) (one_more octet 0 l (n * 4 + j) (omega arith))

stream_at : {S : Type 0} (step : S → S) (word : S → ℕ) (n : ℕ) (x : S) (i : ℕ) → i < n * 4
    → get_or (octets_of (words step word n x)) i 0 ≡ octet step word x i
unfolding words after octet
stream_at step word zero x i h = absurd (omega arith)
stream_at step word (suc n) x zero h = refl
stream_at step word (suc n) x (suc zero) h = refl
stream_at step word (suc n) x (suc (suc zero)) h = refl
stream_at step word (suc n) x (suc (suc (suc zero))) h = refl
stream_at {S} step word (suc n) x (suc (suc (suc (suc i)))) h =
    let d : suc (suc (suc (suc i))) / 4 ≡ suc (i / 4) = omega arith in
    let m : suc (suc (suc (suc i))) % 4 ≡ i % 4 = omega arith in
    stream_at step word n (step x) i (omega arith) ∙
    ap (λ (y : S). get_or (octets 4 (word y)) (i % 4) 0) (after-step step (i / 4) x) ∙
    ap₂ (λ (a b : ℕ). get_or (octets 4 (word (after step a x))) b 0) (sym d) (sym m)

module _ {S : Type 0} (step : S → S) (word : S → ℕ) (x : S) where
  streamed : (l : List ℕ) → enciphered step word x l ≡ under (octet step word x) 0 l
  unfolding enciphered
  streamed l =
      let n = (length l + 3) / 4 in
      let s = octets_of (words step word n x) in
      let e : length s ≡ n * 4 = octets-length (words step word n x) ∙ ap (λ (k : ℕ). k * 4) (words-length step word n x) in
      sym (under-xor (octet step word x) 0 l s (omega arith)
      (λ i q. stream_at step word n x i (omega arith) ∙ ap (octet step word x) (sym (zero-add i))))

  done : (l : List ℕ) (i : ℕ) → length l ≤ i → ciphered step word x l i ≡ enciphered step word x l
  done l i p = rw (take_all i l p, drop_of_length-le l p, append-nil) (sym (streamed l))

  -- a loop over the words: word n whole, and what is left at the end
  module _ (l₀ l k : List ℕ) (n : ℕ) (m : S)
      (i : l ≡ ciphered step word x l₀ (n * 4)) (e : m ≡ after step n x) (f : k ≡ octets 4 (word m)) where
    here : k ≡ octets 4 (word (after step n x))
    here = f ∙ ap (λ (y : S). octets 4 (word y)) e

    pub whole_word : (n + 1) * 4 ≤ length l₀ → covered l (n * 4) k 4 ≡ ciphered step word x l₀ ((n + 1) * 4)
    whole_word h =
        let g : (n + 1) * 4 ≡ n * 4 + 4 = omega arith in
        rw (i, g) (turn step word x l₀ k n here 4 (lit≤ tt) (omega arith))

    pub last_word : n ≡ length l₀ / 4 → covered l (n * 4) k (length l₀ % 4) ≡ enciphered step word x l₀
    last_word d =
        let j = length l₀ % 4 in
        rw i (turn step word x l₀ k n here j (omega arith) (omega arith) ∙ done l₀ (n * 4 + j) (omega arith))

  pub cipher-length : (l : List ℕ) → length (enciphered step word x l) ≡ length l
  cipher-length l = ap length (streamed l) ∙ under-length (octet step word x) 0 l

  pub cipher-octets : (l : List ℕ) → Octets l → Octets (enciphered step word x l)
  cipher-octets l h i = rw (streamed l) (under-octets (octet step word x) (octet-octet step word x) 0 l h i)

  pub cipher-twice : (l : List ℕ) → enciphered step word x (enciphered step word x l) ≡ l
  cipher-twice l =
      ap (enciphered step word x) (streamed l) ∙ streamed (under (octet step word x) 0 l) ∙ under_twice (octet step word x) 0 l

  pub cipher-prefix : (l : List ℕ) (n : ℕ) → enciphered step word x (take n l) ≡ take n (enciphered step word x l)
  cipher-prefix l n = streamed (take n l) ∙ under-take (octet step word x) 0 n l ∙ ap (take n) (sym (streamed l))
