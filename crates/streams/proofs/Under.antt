-- Octets under any stream f of octets.
-- Assumes nothing.
use mathlib.Core.Path.{◌≡◌, refl, ap, ap₂}
use mathlib.Core.List.{List, [], ◌∷◌}
use Prim.Native.Nat.{ℕ, zero, suc, ◌<◌}
use native.Mathlib.Nat.{mod-lt}
use lib.Dec.{lit<}
use lib.Bits.{bit_xor, xor_lt}
use lib.ListN.{length, take}
use Rattle.aes.specs.Octets.{octets}
use Rattle.aes.specs.Laws.{Octets}
use Rattle.aes.proofs.Laws.{xor-cancel}
use Rattle.aes.proofs.Stream.{under}

pub octets-octets : (n x : ℕ) → Octets (octets n x)
octets-octets zero x i = lit< tt
octets-octets (suc n) x zero = mod-lt _ (lit< tt)
octets-octets (suc n) x (suc i) = octets-octets n x i

module _ (f : ℕ → ℕ) where
  pub under-length : (j : ℕ) (l : List ℕ) → length (under f j l) ≡ length l
  unfolding under
  under-length j [] = refl
  under-length j (x ∷ l) = ap suc (under-length (suc j) l)

  pub under_twice : (j : ℕ) (l : List ℕ) → under f j (under f j l) ≡ l
  unfolding under
  under_twice j [] = refl
  under_twice j (x ∷ l) = ap₂ ◌∷◌ (xor-cancel x (f j)) (under_twice (suc j) l)

  pub under-take : (j n : ℕ) (l : List ℕ) → under f j (take n l) ≡ take n (under f j l)
  unfolding under
  under-take j zero l = refl
  under-take j (suc n) [] = refl
  under-take j (suc n) (x ∷ l) = ap (λ (r : List ℕ). bit_xor x (f j) ∷ r) (under-take (suc j) n l)

  pub under-octets : ((i : ℕ) → f i < 256) → (j : ℕ) (l : List ℕ) → Octets l → Octets (under f j l)
  unfolding under
  under-octets h j [] p i = lit< tt
  under-octets h j (x ∷ l) p zero = xor_lt 8 x (f j) (p 0) (h j)
  under-octets h j (x ∷ l) p (suc i) = under-octets h (suc j) l (λ k. p (suc k)) i
