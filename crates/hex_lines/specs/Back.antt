-- What is printed reads back: stated here, proved in proofs/Back.antt. Assumes nothing.
use Rattle.std.specs.Prelude.{ℕ, ◌<◌, ◌≡◌, true, List, [], ◌∷◌}
use Rattle.hex_lines.specs.Hex.{are_digits, octets_of, text_of}

-- each is below 256
abbrev pub Octets : List ℕ → Type 0
Octets [] = Unit {0}
Octets (b ∷ bs) = (b < 256) × Octets bs

abbrev pub ReadsBack : Type 0
ReadsBack = (bs : List ℕ) → Octets bs → (are_digits (text_of bs) ≡ true) × (octets_of (text_of bs) ≡ bs)
