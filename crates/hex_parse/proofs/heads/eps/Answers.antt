use mathlib.Core.Path.{sym, ◌∙◌}
use Rattle.hex_parse.specs.Lines.{eps_line}
use Rattle.hex_parse.proofs.heads.eps.Goals as goal

pub returns-then-begins : goal.returns-then-begins
unfolding eps_line
returns-then-begins c =
    simp (c.headed.ensures, c.room.ensures, c.slot.ensures, sym c.begins.ensures ∙ c.if-begins.true)

pub returns-then-begins-2 : goal.returns-then-begins-2
unfolding eps_line
returns-then-begins-2 c =
    simp (c.headed-then-begins-2.ensures, c.room-then-begins-2.ensures, c.slot-then-begins-2.ensures, sym c.begins-2.ensures ∙ c.if-begins-2.true, sym c.begins.ensures ∙ c.if-begins.false)

pub returns : goal.returns
unfolding eps_line
returns c =
    simp (c.change.ensures, sym c.begins-2.ensures ∙ c.if-begins-2.false, sym c.begins.ensures ∙ c.if-begins.false)
