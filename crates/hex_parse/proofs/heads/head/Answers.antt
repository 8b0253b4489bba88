use mathlib.Core.Path.{sym, ◌∙◌}
use Rattle.hex_parse.specs.Lines.{head_of, seal_line}
use Rattle.hex_parse.proofs.heads.head.Goals as goal

pub returns-then-begins : goal.returns-then-begins
unfolding head_of seal_line
returns-then-begins c =
    simp (c.sealed.ensures, c.digit-then-begins.ensures, c.digit.ensures, c.octet.ensures, sym c.begins.ensures ∙ c.if-begins.true)

pub returns-then-begins-2 : goal.returns-then-begins-2
unfolding head_of seal_line
returns-then-begins-2 c =
    simp (c.sealed-then-begins-2.ensures, c.digit-then-begins-2-2.ensures, c.digit-then-begins-2.ensures, c.octet-then-begins-2.ensures, sym c.begins-2.ensures ∙ c.if-begins-2.true, sym c.begins.ensures ∙ c.if-begins.false)

pub returns-then-begins-3 : goal.returns-then-begins-3
unfolding head_of seal_line
returns-then-begins-3 c =
    simp (c.headed.ensures, c.room.ensures, c.slot.ensures, c.digit-then-begins-3.ensures, sym c.begins-3.ensures ∙ c.if-begins-3.true, sym c.begins-2.ensures ∙ c.if-begins-2.false, sym c.begins.ensures ∙ c.if-begins.false)

pub returns : goal.returns
unfolding head_of seal_line
returns c =
    simp (c.opening.ensures, sym c.begins-3.ensures ∙ c.if-begins-3.false, sym c.begins-2.ensures ∙ c.if-begins-2.false, sym c.begins.ensures ∙ c.if-begins.false)
