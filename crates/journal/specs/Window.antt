-- A journal that is read by pieces: what a position is, as far as its octets are there, and what a reader gives that goes by it.
use Rattle.std.specs.Prelude.{ℕ, zero, suc, ◌+◌, Bool, true, cond, List, [], ◌∷◌, ◌++◌, leb, eqb, length, get_or, take, drop}
use Rattle.journal.specs.declared.Step.{Step}
use Rattle.journal.specs.declared.Step.TheVariants.{Call, Pass, More, End}
use Rattle.journal.specs.Records.{most, head, size_at, well_formed}
use Rattle.journal.specs.Items.{Item, call, after}

-- no record stands at the front of w: one octet is passed over, if there is one
abbrev pub passed : List ℕ → Step
passed w = cond (eqb (length w) 0) End Pass

-- At the front of the window w, behind which there is nothing more where is_end holds. As many octets as the longest record has decide.
unfoldable pub step_of : List ℕ → Bool → Step
step_of w is_end =
    cond (well_formed w) (Call (get_or w 2 0) (size_at w)) (cond is_end (passed w) (cond (leb (head + most) (length w)) Pass More))

-- A step is done and the reader goes on by `reads`: k octets were skipped so far, ps are the pieces still to come. Where one is wanted and there is none,
-- that is the end.
abbrev pub go_on : (ℕ → List ℕ → Bool → List (List ℕ) → List Item) → ℕ → List ℕ → Bool → List (List ℕ) → Step → List Item
go_on reads k w is_end ps (Call kind n) = after k (call kind (take n (drop head w)) ∷ reads 0 (drop (head + n) w) is_end ps)
go_on reads k w is_end ps Pass = reads (suc k) (drop 1 w) is_end ps
go_on reads k w is_end [] More = reads k w true []
go_on reads k w is_end (p ∷ ps) More = reads k (w ++ p) is_end ps
go_on reads k w is_end ps End = after k []

-- so many steps of a reader
unfoldable pub read_from : ℕ → ℕ → List ℕ → Bool → List (List ℕ) → List Item
read_from zero k w is_end ps = []
read_from (suc steps) k w is_end ps = go_on (read_from steps) k w is_end ps (step_of w is_end)

abbrev pub joined : List (List ℕ) → List ℕ
joined [] = []
joined (p ∷ ps) = p ++ joined ps
