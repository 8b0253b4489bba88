-- Document 01, "Refusal numbers": each is given exactly then, first in order.
-- A call's refusals are a list of numbers in its order, each with its test.
use Rattle.std.specs.Prelude.{ℕ, Bool, cond, List, [], ◌∷◌, eqb}

infix 70 ◌when◌
-- a number where its test holds, and 0 where not
abbrev pub ◌when◌ : ℕ → Bool → ℕ
n when t = cond t n 0

-- the first refusal of a list, and 0 where there is none
abbrev pub first : List ℕ → ℕ
first [] = 0
first (n ∷ l) = cond (eqb n 0) (first l) n

-- refused with n or, where n is 0, what the call does
abbrev pub refused_or : {A : Type 0} → ℕ → (ℕ → A) → A → A
refused_or n refused does = cond (eqb n 0) does (refused n)
