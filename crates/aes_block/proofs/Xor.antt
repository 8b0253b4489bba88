-- Exclusive or in any order: of numbers, and of lists octet by octet.
-- Assumes nothing.
use mathlib.Core.Path.{◌≡◌, refl, ap, ap₂, sym, ◌∙◌}
use mathlib.Core.List.{List, [], ◌∷◌, zip_with}
use Prim.Native.Nat.{ℕ, zero, suc, ◌+◌, ◌*◌, ◌/◌, ◌%◌, ◌<◌, ◌≤◌}
use native.Mathlib.Omega.{arith}
use native.Mathlib.Nat.{le_of_suc-le-suc, not-suc-le-zero}
use lib.Arith.{bin_ind}
use lib.Bits.{bit_xor, differ, xor_step, xor_comm, xor_self, xor_zero_r, xor_shr, xor_mod}
use lib.ListN.{length}
use Rattle.aes_block.specs.Octets.{xor}

bit-assoc : (x y z : ℕ) → x < 2 → y < 2 → z < 2 → differ (bit_xor x y) z ≡ differ x (bit_xor y z)
bit-assoc zero zero zero p q r = refl
bit-assoc zero zero (suc zero) p q r = refl
bit-assoc zero (suc zero) zero p q r = refl
bit-assoc zero (suc zero) (suc zero) p q r = refl
bit-assoc (suc zero) zero zero p q r = refl
bit-assoc (suc zero) zero (suc zero) p q r = refl
bit-assoc (suc zero) (suc zero) zero p q r = refl
bit-assoc (suc zero) (suc zero) (suc zero) p q r = refl
bit-assoc (suc (suc x)) y z p q r = absurd (omega arith)
bit-assoc zero (suc (suc y)) z p q r = absurd (omega arith)
bit-assoc (suc zero) (suc (suc y)) z p q r = absurd (omega arith)
bit-assoc zero zero (suc (suc z)) p q r = absurd (omega arith)
bit-assoc zero (suc zero) (suc (suc z)) p q r = absurd (omega arith)
bit-assoc (suc zero) zero (suc (suc z)) p q r = absurd (omega arith)
bit-assoc (suc zero) (suc zero) (suc (suc z)) p q r = absurd (omega arith)

xor_assoc : (a b c : ℕ) → bit_xor (bit_xor a b) c ≡ bit_xor a (bit_xor b c)
xor_assoc =
    bin_ind (λ (n : ℕ). (b c : ℕ) → bit_xor (bit_xor n b) c ≡ bit_xor n (bit_xor b c)) (λ b c. refl)
    (λ n ih b c.
    xor_step (bit_xor n b) c ∙
    ap₂ (λ (x y : ℕ). x * 2 + y)
    (ap (λ (x : ℕ). bit_xor x (c / 2)) (xor_shr n b 1) ∙ ih (b / 2) (c / 2) ∙ ap (bit_xor (n / 2)) (sym (xor_shr b c 1)))
    (ap (λ (x : ℕ). differ x (c % 2)) (xor_mod n b 1) ∙
    bit-assoc (n % 2) (b % 2) (c % 2) (omega arith) (omega arith) (omega arith) ∙
    ap (differ (n % 2)) (sym (xor_mod b c 1))) ∙
    sym (xor_step n (bit_xor b c)))

pub other_way : (x y z : ℕ) → bit_xor (bit_xor x y) z ≡ bit_xor (bit_xor x z) y
other_way x y z = xor_assoc x y z ∙ ap (bit_xor x) (xor_comm y z) ∙ sym (xor_assoc x z y)

xors-assoc : (a b c : List ℕ) → xor (xor a b) c ≡ xor a (xor b c)
unfolding zip_with
xors-assoc [] b c = refl
xors-assoc (x ∷ a) [] c = refl
xors-assoc (x ∷ a) (y ∷ b) [] = refl
xors-assoc (x ∷ a) (y ∷ b) (z ∷ c) = ap₂ ◌∷◌ (xor_assoc x y z) (xors-assoc a b c)

xors-comm : (a b : List ℕ) → xor a b ≡ xor b a
unfolding zip_with
xors-comm [] [] = refl
xors-comm [] (y ∷ b) = refl
xors-comm (x ∷ a) [] = refl
xors-comm (x ∷ a) (y ∷ b) = ap₂ ◌∷◌ (xor_comm x y) (xors-comm a b)

pub xors-swap : (a b c : List ℕ) → xor (xor a b) c ≡ xor (xor a c) b
xors-swap a b c = xors-assoc a b c ∙ ap (xor a) (xors-comm b c) ∙ sym (xors-assoc a c b)

pub xor-cancel : (a b : ℕ) → bit_xor (bit_xor a b) b ≡ a
xor-cancel a b = xor_assoc a b b ∙ ap (bit_xor a) (xor_self b) ∙ xor_zero_r a

pub xor-twice : (m s : List ℕ) → length m ≤ length s → xor (xor m s) s ≡ m
unfolding zip_with
xor-twice [] s h = refl
xor-twice (x ∷ m) [] h = absurd (not-suc-le-zero h)
xor-twice (x ∷ m) (y ∷ s) h = ap₂ ◌∷◌ (xor-cancel x y) (xor-twice m s (le_of_suc-le-suc h))
