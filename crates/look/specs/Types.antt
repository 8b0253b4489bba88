-- The 5GMM message types and the side that sends each (TS 24.501 Table 9.7.1 and clause 8.2).
use Rattle.std.specs.Prelude.{ℕ, Bool, false, cond, ◌||◌, List, [], ◌∷◌, eqb, Option, Some, None}
use Rattle.look.specs.declared.Way.{Way}
use Rattle.look.specs.declared.Way.TheVariants.{Uplink, Downlink, Either}

abbrev pub one_of : ℕ → List ℕ → Bool
one_of t [] = false
one_of t (a ∷ l) = eqb t a || one_of t l

-- from the UE; 69 and 6D are relay key request and relay authentication response
abbrev pub from_ue : List ℕ
from_ue =
    0x41 ∷ 0x43 ∷ 0x45 ∷ 0x48 ∷ 0x4C ∷ 0x4F ∷ 0x51 ∷ 0x55 ∷ 0x57 ∷ 0x59 ∷ 0x5C ∷ 0x5E ∷ 0x5F ∷ 0x66 ∷ 0x67 ∷ 0x69 ∷ 0x6D ∷ []

-- from the network; 6A, 6B and 6C are relay key accept, relay key reject and relay authentication request
abbrev pub from_network : List ℕ
from_network =
    0x42 ∷ 0x44 ∷ 0x46 ∷ 0x47 ∷ 0x4D ∷ 0x4E ∷ 0x50 ∷ 0x52 ∷ 0x54 ∷ 0x56 ∷ 0x58 ∷ 0x5A ∷ 0x5B ∷ 0x5D ∷ 0x65 ∷ 0x68 ∷ 0x6A ∷ 0x6B ∷ 0x6C ∷ []

-- from both: 5GMM status
abbrev pub from_both : List ℕ
from_both = 0x64 ∷ []

-- the direction that a message type requires; none is that it is no type
unfoldable pub way_of : ℕ → Option Way
way_of t =
    cond (one_of t from_ue) (Some Uplink) (cond (one_of t from_network) (Some Downlink) (cond (one_of t from_both) (Some Either) None))
