-- What a journal reads as (document 02, item 10, "Reading").
use Rattle.std.specs.Prelude.{ℕ, zero, suc, ◌+◌, cond, List, [], ◌∷◌, get_or, take, drop}
use Rattle.journal.specs.Records.{head, size_at, well_formed}

-- a call of a kind with its bytes, or a stretch of so many octets that are skipped
pub data Item : Type 0 where
  call : ℕ → List ℕ → Item
  skipped : ℕ → Item

-- the call of the record that l begins with
abbrev pub call_at : List ℕ → Item
call_at l = call (get_or l 2 0) (take (size_at l) (drop head l))

-- k octets were skipped up to here
abbrev pub after : ℕ → List Item → List Item
after zero is = is
after (suc k) is = skipped (suc k) ∷ is

-- with j octets still to pass over, of a record whose call is given already, and k skipped so far
unfoldable pub items_from : ℕ → ℕ → List ℕ → List Item
items_from j k [] = after k []
items_from (suc j) k (o ∷ l) = items_from j k l
items_from zero k (o ∷ l) =
    cond (well_formed (o ∷ l)) (after k (call_at (o ∷ l) ∷ items_from (4 + size_at (o ∷ l)) 0 l)) (items_from 0 (suc k) l)

unfoldable pub items : List ℕ → List Item
items l = items_from 0 0 l
