-- One record of a journal for C: the octets written, or the refusal.
use Rattle.std.specs.Prelude.{ℕ, List}
use Rattle.journal.specs.Write.{Written, Refused, Octets, Writes, writes, write_of}
use Rattle.nas_core.specs.Leaves.{refusal}
use Rattle.nas_c.specs.declared.Shown.{Shown}
use Rattle.nas_c.specs.Numbers.{shown}

-- the answer and the lent output
pub data WritesShown : Type 0 where
  writes_shown : Shown → List ℕ → WritesShown

abbrev pub shown_written : Written → Shown
shown_written (Refused n) = shown (refusal n)
shown_written (Octets n) = record { number = 0; carried = 0; header_type = 0; octet = 0; connection = 0; count = 0; distance = 0; wrote = n; second = 0 }

abbrev pub numbers_written : Writes → WritesShown
numbers_written (writes a out) = writes_shown (shown_written a) out

unfoldable pub journal_numbers : ℕ → List ℕ → List ℕ → WritesShown
journal_numbers kind bytes out = numbers_written (write_of kind bytes out)
