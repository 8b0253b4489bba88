-- Document 01's numbers of refusals.
use Rattle.std.specs.Prelude.{ℕ, Result, Ok, Err}
use Rattle.refusals.specs.declared.Refusal.{Refusal}
use Rattle.refusals.specs.declared.Refusal.TheVariants.{WrongLength, WrongFirstOctet, WrongHeaderType, TooLong, NoRoom, NoCount, WrongCode, NotKnown, NotTogether, WrongWay, NotEps, NotBuilt, WindowTooLarge, OtherAlgorithms, OutOfRange, Container}

abbrev pub number_of : Refusal → ℕ
number_of WrongLength = 1
number_of WrongFirstOctet = 2
number_of WrongHeaderType = 3
number_of TooLong = 4
number_of NoRoom = 5
number_of NoCount = 6
number_of WrongCode = 7
number_of NotKnown = 9
number_of NotTogether = 10
number_of WrongWay = 11
number_of NotEps = 12
number_of NotBuilt = 13
number_of WindowTooLarge = 14
number_of OtherAlgorithms = 15
number_of OutOfRange = 16
number_of Container = 18

-- the number of what a check answers, and 0 where it passes
abbrev pub refused : {A : Type 0} → Result A Refusal → ℕ
refused (Ok x) = 0
refused (Err r) = number_of r
