-- An answer of the code is read back from its words: no two refusals have one number, and no field of an answer is lost.
use Prim.Native.Nat.{ℕ}
use mathlib.Core.Path.{◌≡◌, refl, ap}
use mathlib.Core.List.{[], ◌∷◌}
use lib.ListN.{get_or}
use Rattle.std.specs.Prelude.{⊤, Result, Ok, Err}
use Rattle.refusals.specs.Numbers.{number_of}
use Rattle.refusals.specs.declared.Refusal.{Refusal}
use Rattle.refusals.specs.declared.Refusal.TheVariants.{WrongLength, WrongFirstOctet, WrongHeaderType, TooLong, NoRoom, NoCount, WrongCode, NotKnown, NotTogether, WrongWay, NotEps, NotBuilt, WindowTooLarge, OtherAlgorithms, OutOfRange, Container}
use Rattle.nas_core.specs.declared.Spent.{Spent}
use Rattle.nas_core.specs.ChangeAnswer.{ChangeAnswer, told_change}
use Rattle.nas_core.specs.ChangeAnswer as change
use Rattle.nas_core.specs.UseAnswer.{UseAnswer, told_use}
use Rattle.nas_core.specs.UseAnswer as use'

-- the refusal with a number; 0, 8 and 17 are no refusal's, and stand for any
abbrev pub refusal_with : ℕ → Refusal
refusal_with n =
    get_or (WrongLength ∷ WrongLength ∷ WrongFirstOctet ∷ WrongHeaderType ∷ TooLong ∷ NoRoom ∷ NoCount ∷ WrongCode ∷ WrongCode ∷ NotKnown ∷ NotTogether ∷ WrongWay ∷ NotEps ∷ NotBuilt ∷ WindowTooLarge ∷ OtherAlgorithms ∷ OutOfRange ∷ [])
    n Container

pub refusal-back : (r : Refusal) → refusal_with (number_of r) ≡ r
refusal-back WrongLength = refl
refusal-back WrongFirstOctet = refl
refusal-back WrongHeaderType = refl
refusal-back TooLong = refl
refusal-back NoRoom = refl
refusal-back NoCount = refl
refusal-back WrongCode = refl
refusal-back NotKnown = refl
refusal-back NotTogether = refl
refusal-back WrongWay = refl
refusal-back NotEps = refl
refusal-back NotBuilt = refl
refusal-back WindowTooLarge = refl
refusal-back OtherAlgorithms = refl
refusal-back OutOfRange = refl
refusal-back Container = refl

abbrev pub change_with : ChangeAnswer → Result ⊤ Refusal
change_with (change.Refused n) = Err (refusal_with n)
change_with change.Done = Ok tt

pub change-told : (a : Result ⊤ Refusal) → change_with (told_change a) ≡ a
change-told (Ok x) = refl
change-told (Err r) = ap Err (refusal-back r)

abbrev pub use_with : UseAnswer → Result Spent Refusal
use_with (use'.Refused n) = Err (refusal_with n)
use_with (use'.Used c w) = Ok (record { count = c; wrote = w })

pub use-told : (a : Result Spent Refusal) → use_with (told_use a) ≡ a
use-told (Ok u) = refl
use-told (Err r) = ap Err (refusal-back r)
