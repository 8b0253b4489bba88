-- Lists by their places, and exclusive or.
-- Assumes nothing.
use mathlib.Core.Path.{◌≡◌, refl, ap, sym, ◌∙◌}
use mathlib.Core.List.{List, [], ◌∷◌, map, zip_with}
use Prim.Native.Nat.{ℕ, zero, suc, ◌<◌, ◌≤◌}
use native.Mathlib.Omega.{arith}
use native.Mathlib.Nat.{le_of_suc-le-suc, not-suc-le-zero}
use lib.Bits.{bit_xor}
use lib.ListN.{length, get_or, length-map}
use lib.Seq.{ext_get_or}
use Rattle.aes_block.specs.Octets.{up_from, below, xor}
use Rattle.aes_block.proofs.Tables.{table_at}

-- two lists of four are equal place by place
pub four-by : {A : Type 0} {a b c d a' b' c' d' : A} → a ≡ a' → b ≡ b' → c ≡ c' → d ≡ d'
    → a ∷ b ∷ c ∷ d ∷ [] ≡ a' ∷ b' ∷ c' ∷ d' ∷ []
four-by p q r s = λ i. p i ∷ q i ∷ r i ∷ s i ∷ []

up-length : (i n : ℕ) → length (up_from i n) ≡ n
up-length i zero = refl
up-length i (suc n) = ap suc (up-length (suc i) n)

places-length : (f : ℕ → ℕ) (n : ℕ) → length (map f (below n)) ≡ n
places-length f n = length-map (below n) f ∙ up-length 0 n

-- a list of length n that has f at each place
pub by-places : (f : ℕ → ℕ) (n : ℕ) (l : List ℕ) → length l ≡ n → ((i : ℕ) → i < n → get_or l i 0 ≡ f i) → map f (below n) ≡ l
by-places f n l h e =
    ext_get_or 0 (map f (below n)) l (places-length f n ∙ sym h)
    (λ i q. let p : i < n = omega (arith, places-length f n) in table_at f n i p ∙ sym (e i p))

pub itself : (n : ℕ) (l : List ℕ) → length l ≡ n → map (λ i. get_or l i 0) (below n) ≡ l
itself n l h = by-places (λ i. get_or l i 0) n l h (λ i p. refl)

pub xor-length : (a b : List ℕ) → length a ≤ length b → length (xor a b) ≡ length a
unfolding zip_with
xor-length [] b h = refl
xor-length (x ∷ a) [] h = absurd (not-suc-le-zero h)
xor-length (x ∷ a) (y ∷ b) h = ap suc (xor-length a b (le_of_suc-le-suc h))

pub xor-at : (a b : List ℕ) (i : ℕ) → i < length a → i < length b → get_or (xor a b) i 0 ≡ bit_xor (get_or a i 0) (get_or b i 0)
unfolding zip_with
xor-at [] b i p q = absurd (not-suc-le-zero p)
xor-at (x ∷ a) [] i p q = absurd (not-suc-le-zero q)
xor-at (x ∷ a) (y ∷ b) zero p q = refl
xor-at (x ∷ a) (y ∷ b) (suc i) p q = xor-at a b i (le_of_suc-le-suc p) (le_of_suc-le-suc q)

pub xor-places : (n : ℕ) (a b : List ℕ) → length a ≡ n → length b ≡ n → map (λ i. bit_xor (get_or a i 0) (get_or b i 0)) (below n) ≡ xor a b
xor-places n a b h k =
    by-places (λ i. bit_xor (get_or a i 0) (get_or b i 0)) n (xor a b) (xor-length a b (omega arith) ∙ h)
    (λ i p. xor-at a b i (omega arith) (omega arith))
