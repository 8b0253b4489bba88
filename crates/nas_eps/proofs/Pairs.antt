-- Two octets of a list, and two of them compared as one number.
use mathlib.Core.Path.{◌≡◌, refl, ap}
use mathlib.Core.List.{List, [], ◌∷◌}
use Prim.Native.Nat.{ℕ, ◌+◌, ◌*◌, ◌<◌}
use native.Mathlib.Omega.{arith}
use lib.ListN.{length, drop, get_or}
use lib.Dec.{eqb}
use Rattle.nas_core.specs.Verify.{same}
use Rattle.nas_core.proofs.Octets.{four, compared as compared-four}

pub two : (k : List ℕ) → length k ≡ 2 → k ≡ get_or k 0 0 ∷ get_or k 1 0 ∷ []
two (a ∷ b ∷ []) e = refl
two [] e = absurd (omega arith)
two (a ∷ []) e = absurd (omega arith)
two (a ∷ b ∷ c ∷ l) e = absurd (omega arith)

pub last-two : (k : List ℕ) → length k ≡ 4 → drop 2 k ≡ get_or k 2 0 ∷ get_or k 3 0 ∷ []
last-two k e = ap (λ (l : List ℕ). drop 2 l) (four k e)

-- as four of which the first are zeros
pub compared : (a b c d : ℕ) → a < 256 → b < 256 → c < 256 → d < 256 → eqb (a * 256 + b) (c * 256 + d) ≡ same (a ∷ b ∷ []) (c ∷ d ∷ [])
compared a b c d pa pb pc pd =
    let e : a * 256 + b ≡ 0 * 16777216 + 0 * 65536 + a * 256 + b = omega arith in
    let f : c * 256 + d ≡ 0 * 16777216 + 0 * 65536 + c * 256 + d = omega arith in
    let z : 0 < 256 = omega arith in
    rw (e, f) (compared-four 0 0 a b 0 0 c d z z pa pb z z pc pd)
