-- A journal replayed (document 02, item 10): each call is done on the context that the last one gave back, with outputs of a5. Skipped octets do nothing to it.
use Rattle.std.specs.Prelude.{ℕ, List, [], ◌∷◌, replicate}
use Rattle.nas_5gs.specs.declared.Context.{Context}
use Rattle.nas_5gs.specs.Leaves.{LeavesTwo, leaves_two}
use Rattle.hex_parse.specs.Lines.{Line}
use Rattle.hex_perform.specs.declared.Answer.{Answer}
use Rattle.hex_perform.specs.Perform.{perform_of}
use Rattle.journal.specs.Items.{Item, call, skipped}
use Rattle.journal_calls.specs.Calls.{rest_of}
use Rattle.journal_lines.specs.Lines.{line_of}

abbrev pub lent : ℕ → List ℕ
lent n = replicate n 0xA5

-- the line l, with its octets o, on the context x
unfoldable pub performed : Line → List ℕ → Context → LeavesTwo Answer
performed l o x = perform_of l x o (lent l.room) (lent l.second)

abbrev pub given : LeavesTwo Answer → Context
given (leaves_two a x out second) = x

-- what lines leave, one after the other
unfoldable pub answered : List (Line × List ℕ) → Context → List (LeavesTwo Answer)
answered [] x = []
answered (l ∷ ls) x = performed l.0 l.1 x ∷ answered ls (given (performed l.0 l.1 x))

-- what the calls of items leave
abbrev pub line_at : ℕ → List ℕ → Line × List ℕ
line_at kind bytes = (line_of kind bytes, rest_of kind bytes)

abbrev pub lines_in : List Item → List (Line × List ℕ)
lines_in [] = []
lines_in (call kind bytes ∷ is) = line_at kind bytes ∷ lines_in is
lines_in (skipped n ∷ is) = lines_in is

unfoldable pub replayed : List Item → Context → List (LeavesTwo Answer)
replayed is x = answered (lines_in is) x
