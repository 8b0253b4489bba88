-- The walk over the optional parts to the last octet (TS 24.007 11.2.4), and the NAS message container among them (TS 24.501 9.11.3.33; 7.6.3: the first counts).
use Rattle.std.specs.Prelude.{ℕ, zero, suc, ◌+◌, cond, List, [], ◌∷◌, leb, eqb, length, get_or, drop, Option, Some, None, Result, Ok, Err}
use Rattle.initial.specs.declared.Span.{Span}
use Rattle.initial.specs.declared.Unwalkable.{Unwalkable}
use Rattle.initial.specs.Parts.{head_length, value_length, part_length}
use Rattle.initial.specs.Messages.{mandatory_length, is_whole}

-- a part: its identifier, where in the message its value starts, and the value's length
pub data Part : Type 0 where
  part : ℕ → ℕ → ℕ → Part

pub data Walk : Type 0 where
  fails : Walk
  parts : List Part → Walk

infix 70 ◌before◌
abbrev pub ◌before◌ : Part → Walk → Walk
p before fails = fails
p before parts ps = parts (p ∷ ps)

-- the part that l begins with, where l is the message from octet `at` on, counted from 0
abbrev pub part_of : ℕ → List ℕ → Part
part_of at l = part (get_or l 0 0) (at + head_length l) (value_length l)

-- the octet after it
abbrev pub end_at : List ℕ → ℕ → ℕ
end_at m at = at + part_length (drop at m)

-- from octet `at` on; it fails at a part that runs past the message. A part has at least one octet, so that there are no more steps than octets.
unfoldable pub walk_from : List ℕ → ℕ → ℕ → Walk
walk_from m zero at = parts []
walk_from m (suc steps) at =
    cond (leb (length m) at) (parts [])
    (cond (leb (end_at m at) (length m)) (part_of at (drop at m) before walk_from m steps (end_at m at)) fails)

-- behind the mandatory part
unfoldable pub walk_of : List ℕ → Walk
walk_of m = cond (is_whole m) (walk_from m (length m) (mandatory_length m)) fails

-- a value: at which octet it starts, and how many it has
abbrev pub span : ℕ → ℕ → Span
span start n = record { start = start; length = n }

-- the container's identifier is 71
abbrev pub first_in : List Part → Option Span
first_in [] = None
first_in (part i start n ∷ ps) = cond (eqb i 0x71) (Some (span start n)) (first_in ps)

abbrev pub container_in : Walk → Result (Option Span) Unwalkable
container_in fails = Err (record {})
container_in (parts ps) = Ok (first_in ps)

unfoldable pub container_of : List ℕ → Result (Option Span) Unwalkable
container_of m = container_in (walk_of m)
