-- Looking at the inner message (document 01, "The octets"; TS 24.501 9.2, 9.3, Table 9.3.1).
use Rattle.std.specs.Prelude.{ℕ, ◌%◌, Bool, true, false, cond, not, ◌&&◌, ◌||◌, List, [], ◌∷◌, length, get_or, leb, eqb, Option, Some, None}
use Rattle.refusals.specs.Order.{◌when◌, first}
use Rattle.look.specs.declared.Way.{Way}
use Rattle.look.specs.declared.Way.TheVariants.{Uplink, Downlink, Either}
use Rattle.look.specs.Types.{way_of}

-- 7E, a second octet with low half 0, and a type
unfoldable pub is_mobility : List ℕ → Bool
is_mobility m = leb 3 (length m) && eqb (get_or m 0 0) 0x7E && eqb (get_or m 1 0 % 16) 0

-- 2E and at least 4 octets
unfoldable pub is_session : List ℕ → Bool
is_session m = leb 4 (length m) && eqb (get_or m 0 0) 0x2E

-- the direction that a message requires; none is that it is unknown
unfoldable pub way_in : List ℕ → Option Way
way_in m = cond (is_mobility m) (way_of (get_or m 2 0)) (cond (is_session m) (Some Either) None)

abbrev pub is_unknown : Option Way → Bool
is_unknown (Some w) = false
is_unknown None = true

-- direction 0 is uplink and 1 downlink
abbrev pub is_against : ℕ → Option Way → Bool
is_against d (Some Uplink) = not (eqb d 0)
is_against d (Some Downlink) = not (eqb d 1)
is_against d (Some Either) = false
is_against d None = false

-- a 7E message of one type
unfoldable pub is_of : ℕ → List ℕ → Bool
is_of t m = is_mobility m && eqb (get_or m 2 0) t

-- 9: not a known message
unfoldable pub not_known : List ℕ → Bool
not_known m = is_unknown (way_in m)

-- one of two holds without the other
unfoldable pub alone : Bool → Bool → Bool
alone a b = cond a (not b) b

-- 10: header type 3 with 5D (security mode command) and 4 with 5E (security mode complete), each only with the other (Table 9.3.1)
unfoldable pub not_together : ℕ → List ℕ → Bool
not_together t m = alone (eqb t 3) (is_of 0x5D m) || alone (eqb t 4) (is_of 0x5E m)

-- 11: wrong direction
unfoldable pub wrong_way : ℕ → List ℕ → Bool
wrong_way d m = is_against d (way_in m)

-- what refusal 8 carries: 9, 10, 11
abbrev pub look_refusals : ℕ → ℕ → List ℕ → List ℕ
look_refusals t d m = 9 when not_known m ∷ 10 when not_together t m ∷ 11 when wrong_way d m ∷ []

unfoldable pub look_of : ℕ → ℕ → List ℕ → ℕ
look_of t d m = first (look_refusals t d m)
