-- The words of a machine, by their places.
-- Assumes nothing.
use mathlib.Core.Path.{◌≡◌, refl, ap, ◌∙◌}
use mathlib.Core.List.{List, [], ◌∷◌, ◌++◌}
use Prim.Native.Nat.{ℕ, zero, suc, ◌+◌, ◌*◌, ◌<◌, ◌≤◌}
use native.Mathlib.Omega.{arith}
use native.Mathlib.Nat.{not-suc-le-zero, le_of_suc-le-suc}
use native.Mathlib.Numerals.{add-one}
use lib.ListN.{length, take, get_or}
use Rattle.streams.specs.Stream.{after, words, octets_of}

pub octets-length : (zs : List ℕ) → length (octets_of zs) ≡ length zs * 4
octets-length [] = refl
octets-length (z ∷ zs) = omega (arith, octets-length zs)

module _ {S : Type 0} (step : S → S) where
  pub after-step : (n : ℕ) (x : S) → after step n (step x) ≡ after step (suc n) x
  unfolding after
  after-step zero x = refl
  after-step (suc n) x = ap step (after-step n x)

  module _ (word : S → ℕ) where
    pub words-length : (n : ℕ) (x : S) → length (words step word n x) ≡ n
    unfolding words
    words-length zero x = refl
    words-length (suc n) x = ap suc (words-length n (step x))

    pub words-at : (n : ℕ) (x : S) (i : ℕ) → i < n → get_or (words step word n x) i 0 ≡ word (after step i x)
    unfolding words after
    words-at zero x i h = absurd (not-suc-le-zero h)
    words-at (suc n) x zero h = refl
    words-at (suc n) x (suc i) h = words-at n (step x) i (le_of_suc-le-suc h) ∙ ap word (after-step i x)

    -- one word more
    pub words-more : (n : ℕ) (x : S) → words step word (n + 1) x ≡ words step word n x ++ (word (after step n x) ∷ [])
    unfolding words after
    words-more n x = rw add-one (more n x)
      where
        more : (n : ℕ) (x : S) → words step word (suc n) x ≡ words step word n x ++ (word (after step n x) ∷ [])
        more zero x = refl
        more (suc n) x = ap (λ l. word x ∷ l) (more n (step x) ∙ ap (λ y. words step word n (step x) ++ (word y ∷ [])) (after-step n x))

    -- the first words are the same, however many are asked for
    pub words-prefix : (n k : ℕ) (x : S) → n ≤ k → take n (words step word k x) ≡ words step word n x
    unfolding words
    words-prefix zero k x h = refl
    words-prefix (suc n) zero x h = absurd (not-suc-le-zero h)
    words-prefix (suc n) (suc k) x h = ap (λ (l : List ℕ). word x ∷ l) (words-prefix n k (step x) (le_of_suc-le-suc h))
