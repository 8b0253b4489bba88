-- SERVICE REQUEST (4C) and DEREGISTRATION REQUEST from the UE (45), TS 24.501 8.2.16 and 8.2.12.
-- Both begin: 7E; security header type 0 in the low half; the type; one octet; the length of the identity in two octets; the identity.
use Rattle.std.specs.Prelude.{ℕ, ◌+◌, Bool, ◌||◌, List, leb, length, get_or}
use Rattle.look.specs.Look.{is_of}
use Rattle.initial.specs.Parts.{number}

unfoldable pub is_initial : List ℕ → Bool
is_initial m = is_of 0x4C m || is_of 0x45 m

-- the type octet
abbrev pub type_of : List ℕ → ℕ
type_of m = get_or m 2 0

-- up to the last octet of the identity
unfoldable pub mandatory_length : List ℕ → ℕ
mandatory_length m = 6 + number (get_or m 4 0) (get_or m 5 0)

-- the mandatory part is all there; under 6 octets it is not
unfoldable pub is_whole : List ℕ → Bool
is_whole m = leb (mandatory_length m) (length m)
