-- The refusals that 5GS and EPS calls share (document 01, "Refusal numbers").
use Rattle.std.specs.Prelude.{ℕ, ◌+◌, ◌-◌, Bool, false, ◌||◌, not, List, [], ◌∷◌, leb, ltb}
use Rattle.count.specs.Rule.{exhausted}
use Rattle.algorithms.specs.Codes.{is_built}
use Rattle.refusals.specs.Order.{◌when◌, first}
use Rattle.nas_core.specs.declared.Core.{Core}

-- the most inner octets, and the longest container value
abbrev pub limit : ℕ
limit = 65535

-- two codes of which one is not built
unfoldable pub unbuilt : ℕ → ℕ → Bool
unbuilt i c = not (is_built i) || not (is_built c)

-- a context's codes and size: 13, 14
abbrev pub core_refusals : Core → List ℕ
core_refusals x = 13 when unbuilt x.integrity x.ciphering ∷ 14 when (ltb 64 x.size) ∷ []

unfoldable pub core_fault : Core → ℕ
core_fault x = first (core_refusals x)

-- a next COUNT above 16,777,216 among some
abbrev pub any_over : List ℕ → Bool
any_over [] = false
any_over (n ∷ l) = ltb exhausted n || any_over l

-- what a context holds, with the next COUNTs of its records: 13, 14, 16
abbrev pub held_refusals : Core → List ℕ → List ℕ
held_refusals x next = core_fault x ∷ 16 when any_over next ∷ []

-- sending n octets behind a header in an output of so many octets, with the next COUNT: 4, 5, 6
abbrev pub send_refusals : ℕ → ℕ → ℕ → ℕ → List ℕ
send_refusals header n room next =
    4 when (ltb limit n) ∷ 5 when (ltb room (header + n)) ∷ 6 when (leb exhausted next) ∷ []

-- handing over the octets behind the header of a message of n octets: 4, 5
abbrev pub hand_refusals : ℕ → ℕ → ℕ → List ℕ
hand_refusals header n room = 4 when (ltb limit (n - header)) ∷ 5 when (ltb room (n - header)) ∷ []
