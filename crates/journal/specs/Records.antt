-- A record (document 02, item 10): the mark 4E 53, the kind, the length n of the call's bytes in two octets, the high one first, and the n bytes.
use Rattle.std.specs.Prelude.{ℕ, ◌+◌, ◌*◌, ◌/◌, ◌%◌, Bool, false, ◌&&◌, List, [], ◌∷◌, ◌++◌, leb, eqb, length, get_or}

-- how many bytes a call of some kind has
pub data Lengths : Type 0 where
  none : Lengths
  exactly : ℕ → Lengths
  at_least : ℕ → Lengths

-- Kinds 00 to 0E: unknown; creation, restore, reselection, window size; seal, opaque seal, open; EPS message seal and open; N1-to-S1 made and verified;
-- S1-to-N1 made and verified; initial seal. The others are unknown.
abbrev pub kinds : List Lengths
kinds =
    none
    ∷ exactly 34 ∷ exactly 50 ∷ exactly 34 ∷ exactly 1
    ∷ at_least 4 ∷ at_least 4 ∷ at_least 5
    ∷ at_least 2 ∷ at_least 2
    ∷ exactly 0 ∷ exactly 1
    ∷ exactly 4 ∷ at_least 0
    ∷ at_least 3
    ∷ []

abbrev pub allows : Lengths → ℕ → Bool
allows none n = false
allows (exactly m) n = eqb n m
allows (at_least m) n = leb m n

-- a kind that is known, and a length that it allows
unfoldable pub is_allowed : ℕ → ℕ → Bool
is_allowed kind n = allows (get_or kinds kind none) n

-- a call has at most so many bytes
abbrev pub most : ℕ
most = 60000

-- the octets of a record before the call's bytes
abbrev pub head : ℕ
head = 5

-- of the octets from a position on: the length that a record there states
unfoldable pub size_at : List ℕ → ℕ
size_at l = get_or l 3 0 * 256 + get_or l 4 0

-- whether a record stands there, whole
unfoldable pub well_formed : List ℕ → Bool
well_formed l =
    eqb (get_or l 0 0) 0x4E && eqb (get_or l 1 0) 0x53 && is_allowed (get_or l 2 0) (size_at l) && leb (size_at l) most
    && leb (head + size_at l) (length l)

-- what stands before n bytes of call, and the record of a call
unfoldable pub head_of : ℕ → ℕ → List ℕ
head_of kind n = 0x4E ∷ 0x53 ∷ kind ∷ n / 256 ∷ n % 256 ∷ []

unfoldable pub record_of : ℕ → List ℕ → List ℕ
record_of kind bytes = head_of kind (length bytes) ++ bytes
