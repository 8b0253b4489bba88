-- What a call leaves, whatever the context X that it is made on, and document 01's values for its answer ("Refusal numbers").
use Rattle.std.specs.Prelude.{ℕ, Bool, true, false, List, ◌++◌, length, drop, Ok, Err}
use Rattle.count.specs.Rule.{Opening}
use Rattle.count.specs.declared.Taken.TheVariants.{Late, Forward}
use Rattle.count.specs.declared.Missed.TheVariants.{NoCandidate, WrongCode}

-- the answer, the context handed back, and the lent output: no octets where none is lent
pub data Leaves (X A : Type 0) : Type 0 where
  leaves : A → X → List ℕ → Leaves X A

-- octets written to the front of an output, and no octet after them
abbrev pub over : List ℕ → List ℕ → List ℕ
over octets out = octets ++ drop (length octets) out

-- COUNT c used, and the octets that are made with it written: `says` answers a COUNT and how many octets, `used` is the context in which a COUNT is used
abbrev pub used_with : {X A : Type 0} → (ℕ → ℕ → A) → (ℕ → X) → ℕ → List ℕ → List ℕ → Leaves X A
used_with says used c octets out = leaves (says c (length octets)) (used c) (over octets out)

-- a received message by what it is taken as: 6, 7, or its COUNT used, forward or late, and what it carries handed over
abbrev pub received_as : {X R : Type 0} → (ℕ → X) → (ℕ → X) → (ℕ → R) → (ℕ → X → R) → Opening → R
received_as used used_late refused handed (Err NoCandidate) = refused 6
received_as used used_late refused handed (Err WrongCode) = refused 7
received_as used used_late refused handed (Ok (Late c)) = handed c (used_late c)
received_as used used_late refused handed (Ok (Forward c)) = handed c (used c)

-- an output after that: what it carries, read under its COUNT, where one is used
abbrev pub read_as : (ℕ → List ℕ) → List ℕ → Opening → List ℕ
read_as carried out (Err NoCandidate) = out
read_as carried out (Err WrongCode) = out
read_as carried out (Ok (Late c)) = carried c
read_as carried out (Ok (Forward c)) = carried c

-- the values: whether it is a refusal, and its number, 0 for a success; the others are 0 where the answer has none
pub record Values : Type 0 where
  pub refused : Bool
  pub number : ℕ
  pub uses : Bool
  pub count : ℕ
  pub distance : ℕ
  pub wrote : ℕ
  pub second : ℕ
  pub header : ℕ
  pub carried : ℕ
  pub octet : ℕ

-- a number alone
abbrev pub refusal : ℕ → Values
refusal n = record { refused = true; number = n; uses = false; count = 0; distance = 0; wrote = 0; second = 0; header = 0; carried = 0; octet = 0 }

-- a success that uses no COUNT
abbrev pub success : Values
success = record { refused = false; number = 0; uses = false; count = 0; distance = 0; wrote = 0; second = 0; header = 0; carried = 0; octet = 0 }
