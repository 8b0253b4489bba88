-- What the library says of octets and of turned words, in the words of the standards.
-- Assumes nothing.
use Rattle.std.proofs.Common.{◌≡◌, ℕ, ◌+◌, ◌*◌, ◌/◌, ◌%◌, ◌^◌, ◌<◌, [], ◌∷◌, refl, subst, ap₂, ◌∙◌, add-zero, div-one, arith}
use Rattle.std.proofs.Math.Nat.{mul-mod_left}
use Rattle.std.proofs.lemmas.Nat.{mod-pow-add, shl-shr, shr_below, or_shifted, or_comm}
use Rattle.std.specs.Int.Bits.{bit_or}
use Rattle.std.specs.Int.{w32, w64, to_be_bytes, from_be_bytes}
use Rattle.aes.specs.Octets.{octets, number}

pub octets-of : (x : ℕ) → to_be_bytes w32 x ≡ octets 4 x
octets-of x = rw div-one refl

pub number-of4 : (a b c d : ℕ) → from_be_bytes w32 (a ∷ b ∷ c ∷ d ∷ []) ≡ number (a ∷ b ∷ c ∷ d ∷ [])
number-of4 a b c d = omega arith

pub number-of8 : (a b c d e f g h : ℕ) → from_be_bytes w64 (a ∷ b ∷ c ∷ d ∷ e ∷ f ∷ g ∷ h ∷ []) ≡ number (a ∷ b ∷ c ∷ d ∷ e ∷ f ∷ g ∷ h ∷ [])
number-of8 a b c d e f g h = omega arith

turn : (x j k : ℕ) → x < 2 ^ (j + k) → bit_or (x * 2 ^ k % 2 ^ (j + k)) (x / 2 ^ j) ≡ x % 2 ^ j * 2 ^ k + x / 2 ^ j
turn x j k h =
    let m : x * 2 ^ k % 2 ^ (j + k) ≡ x % 2 ^ j * 2 ^ k =
    mod-pow-add (x * 2 ^ k) j k ∙ ap₂ (λ a b. a % 2 ^ j * 2 ^ k + b) (shl-shr x k) (mul-mod_left x (2 ^ k)) ∙ add-zero _ in
    rw m (or_shifted (x % 2 ^ j) k (x / 2 ^ j) (shr_below x k j (subst (λ n. x < 2 ^ n) (omega arith) h)))

-- x <<< k, as the library says it, where k is 32 - j
pub left-turn : (x j k : ℕ) → j + k ≡ 32 → x < 2 ^ 32 → bit_or (x * 2 ^ k % 2 ^ 32) (x / 2 ^ j) ≡ x % 2 ^ j * 2 ^ k + x / 2 ^ j
left-turn x j k e = subst (λ n. x < 2 ^ n → bit_or (x * 2 ^ k % 2 ^ n) (x / 2 ^ j) ≡ x % 2 ^ j * 2 ^ k + x / 2 ^ j) e (turn x j k)

-- x >>> k, which is x <<< j
pub right-turn : (x j k : ℕ) → j + k ≡ 32 → x < 2 ^ 32 → bit_or (x / 2 ^ k) (x * 2 ^ j % 2 ^ 32) ≡ x % 2 ^ k * 2 ^ j + x / 2 ^ k
right-turn x j k e h = or_comm (x / 2 ^ k) (x * 2 ^ j % 2 ^ 32) ∙ left-turn x k j (omega arith) h
