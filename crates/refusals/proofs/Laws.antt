-- What a first refusal of 0 says of each test of its list.
use Prim.Native.Nat.{ℕ, zero, suc, ◌<◌}
use mathlib.Core.Path.{◌≡◌, refl}
use mathlib.Core.Bool.{Bool, true, false, cond}
use mathlib.Core.List.{List, [], ◌∷◌}
use native.Mathlib.Omega.{arith}
use lib.ListN.{get_or}
use lib.Dec.{eqb}
use borrow.Author.Tests.{eqb-true, eqb-false}
use Rattle.refusals.specs.Order.{◌when◌, first}
use Rattle.refusals.specs.Numbers.{number_of}
use Rattle.refusals.specs.declared.Refusal.{Refusal}
use Rattle.refusals.specs.declared.Refusal.TheVariants.{WrongLength, WrongFirstOctet, WrongHeaderType, TooLong, NoRoom, NoCount, WrongCode, NotKnown, NotTogether, WrongWay, NotEps, NotBuilt, WindowTooLarge, OtherAlgorithms, OutOfRange, Container}

step : (n : ℕ) (l : List ℕ) (t : Bool) → eqb n 0 ≡ t → cond t (first l) n ≡ 0 → (n ≡ 0) × (first l ≡ 0)
step n l true q e = (eqb-true n 0 q, e)
step n l false q e = absurd (eqb-false n 0 q e)

-- every number of the list is 0
pub passed : (l : List ℕ) → first l ≡ 0 → (i : ℕ) → get_or l i 0 ≡ 0
passed [] e i = refl
passed (n ∷ l) e zero = (step n l (eqb n 0) refl e).0
passed (n ∷ l) e (suc i) = passed l (step n l (eqb n 0) refl e).1 i

-- a number that is 0 had a test that fails
pub off : (n : ℕ) (t : Bool) → 0 < n → (n when t) ≡ 0 → t ≡ false
off n true h e = absurd (omega arith)
off n false h e = refl

-- no refusal has number 0
pub number-not0 : (r : Refusal) → eqb (number_of r) 0 ≡ false
number-not0 WrongLength = refl
number-not0 WrongFirstOctet = refl
number-not0 WrongHeaderType = refl
number-not0 TooLong = refl
number-not0 NoRoom = refl
number-not0 NoCount = refl
number-not0 WrongCode = refl
number-not0 NotKnown = refl
number-not0 NotTogether = refl
number-not0 WrongWay = refl
number-not0 NotEps = refl
number-not0 NotBuilt = refl
number-not0 WindowTooLarge = refl
number-not0 OtherAlgorithms = refl
number-not0 OutOfRange = refl
number-not0 Container = refl
