-- Small journals, read.
use mathlib.Core.Path.{◌≡◌, refl}
use mathlib.Core.List.{[], ◌∷◌}
use Rattle.journal.specs.Records.{is_allowed, size_at, well_formed}
use Rattle.journal.specs.Items.{call, skipped, items_from, items}

-- a window size, an N1-to-S1 container
two : items (0x4E ∷ 0x53 ∷ 0x04 ∷ 0 ∷ 1 ∷ 8 ∷ 0x4E ∷ 0x53 ∷ 0x0A ∷ 0 ∷ 0 ∷ []) ≡ call 0x04 (8 ∷ []) ∷ call 0x0A [] ∷ []
unfolding items items_from well_formed is_allowed size_at
two = refl

-- kind 0F is unknown
unknown : items (0x4E ∷ 0x53 ∷ 0x0F ∷ 0 ∷ 1 ∷ 8 ∷ 0x4E ∷ 0x53 ∷ 0x0A ∷ 0 ∷ 0 ∷ []) ≡ skipped 6 ∷ call 0x0A [] ∷ []
unfolding items items_from well_formed is_allowed size_at
unknown = refl

-- without its last octet, a record takes the next one's first
taken : items (0x4E ∷ 0x53 ∷ 0x04 ∷ 0 ∷ 1 ∷ 0x4E ∷ 0x53 ∷ 0x0A ∷ 0 ∷ 0 ∷ 0x4E ∷ 0x53 ∷ 0x0A ∷ 0 ∷ 0 ∷ [])
    ≡ call 0x04 (0x4E ∷ []) ∷ skipped 4 ∷ call 0x0A [] ∷ []
unfolding items items_from well_formed is_allowed size_at
taken = refl

-- a false length costs its record alone, and the search begins at the octet after its first
long : items (0x4E ∷ 0x53 ∷ 0x04 ∷ 0xFF ∷ 0xFF ∷ 0x4E ∷ 0x4E ∷ 0x53 ∷ 0x0A ∷ 0 ∷ 0 ∷ []) ≡ skipped 6 ∷ call 0x0A [] ∷ []
unfolding items items_from well_formed is_allowed size_at
long = refl

-- a record inside a damaged one counts, one inside a whole one does not
inside : items (0x4E ∷ 0x53 ∷ 0x05 ∷ 0 ∷ 0xFF ∷ 0 ∷ 0 ∷ 0x4E ∷ 0x53 ∷ 0x0A ∷ 0 ∷ 0 ∷ []) ≡ skipped 7 ∷ call 0x0A [] ∷ []
unfolding items items_from well_formed is_allowed size_at
inside = refl

part : items (0x4E ∷ 0x53 ∷ 0x0D ∷ 0 ∷ 5 ∷ 0x4E ∷ 0x53 ∷ 0x0A ∷ 0 ∷ 0 ∷ []) ≡ call 0x0D (0x4E ∷ 0x53 ∷ 0x0A ∷ 0 ∷ 0 ∷ []) ∷ []
unfolding items items_from well_formed is_allowed size_at
part = refl

-- a last record that is cut is not done
cut : items (0x4E ∷ 0x53 ∷ 0x0A ∷ 0 ∷ 0 ∷ 0x4E ∷ 0x53 ∷ 0x0B ∷ 0 ∷ 1 ∷ []) ≡ call 0x0A [] ∷ skipped 5 ∷ []
unfolding items items_from well_formed is_allowed size_at
cut = refl
