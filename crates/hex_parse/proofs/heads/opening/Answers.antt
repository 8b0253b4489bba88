use mathlib.Core.Path.{sym, ◌∙◌}
use Rattle.hex_parse.specs.Lines.{open_line}
use Rattle.hex_parse.proofs.heads.opening.Goals as goal

pub returns-then-begins : goal.returns-then-begins
unfolding open_line
returns-then-begins c =
    simp (c.opened.ensures, c.digit-then-begins.ensures, c.digit.ensures, sym c.begins.ensures ∙ c.if-begins.true)

pub returns-then-begins-2 : goal.returns-then-begins-2
unfolding open_line
returns-then-begins-2 c =
    simp (c.opened-then-begins-2.ensures, c.digit-then-begins-2-2.ensures, c.digit-then-begins-2.ensures, sym c.begins-2.ensures ∙ c.if-begins-2.true, sym c.begins.ensures ∙ c.if-begins.false)

pub returns : goal.returns
unfolding open_line
returns c =
    simp (c.eps.ensures, sym c.begins-2.ensures ∙ c.if-begins-2.false, sym c.begins.ensures ∙ c.if-begins.false)
