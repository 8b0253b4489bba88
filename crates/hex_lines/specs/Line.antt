-- A line: words with one space between them. Assumes nothing.
use Rattle.std.specs.Prelude.{ℕ, ◌/◌, ◌%◌, Bool, cond, ◌&&◌, List, [], ◌∷◌, leb, eqb, length, Result, Ok, Err}
use Rattle.std.proofs.Math.Seq.{paste}
use Rattle.hex_lines.specs.Hex.{are_digits, octets_of}
use Rattle.hex_lines.specs.declared.NotDecoded.{NotDecoded}
use Rattle.hex_lines.specs.declared.NotDecoded.TheVariants.{Long, Bad}

-- what stands before the first octet that is `stop`: a word before a space, a line before LF
unfoldable pub up_to : ℕ → List ℕ → List ℕ
up_to stop [] = []
up_to stop (c ∷ cs) = cond (eqb c stop) [] (c ∷ up_to stop cs)

-- octets as text are an even run of digits
unfoldable pub are_octets : List ℕ → Bool
are_octets text = eqb (length text % 2) 0 && are_digits text

-- the octets that a text is, where an output has room for so many of them
unfoldable pub decoded_of : List ℕ → ℕ → Result ℕ NotDecoded
decoded_of text room =
    cond (are_octets text) (cond (leb (length text / 2) room) (Ok (length text / 2)) (Err Long)) (Err Bad)

-- the output after them
unfoldable pub written : List ℕ → List ℕ → List ℕ
written text out =
    cond (are_octets text && leb (length text / 2) (length out)) (paste out 0 (octets_of text) (length text / 2)) out
