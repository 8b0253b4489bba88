use mathlib.Core.Path.{sym, ◌∙◌}
use Rattle.hex_eps_parse.specs.Lines.{head_of, message_line}
use Rattle.hex_eps_parse.proofs.heads.head.Goals as goal

pub returns-then-begins : goal.returns-then-begins
unfolding head_of message_line
returns-then-begins c =
    simp (c.headed.ensures, c.room.ensures, c.slot.ensures, c.digit.ensures, c.octet.ensures, sym c.begins.ensures ∙ c.if-begins.true)

pub returns-then-begins-2 : goal.returns-then-begins-2
unfolding head_of message_line
returns-then-begins-2 c =
    simp (c.headed-then-begins-2.ensures, c.room-then-begins-2.ensures, c.slot-then-begins-2.ensures, c.digit-then-begins-2.ensures, sym c.begins-2.ensures ∙ c.if-begins-2.true, sym c.begins.ensures ∙ c.if-begins.false)

pub returns-then-fits : goal.returns-then-fits
unfolding head_of message_line
returns-then-fits c =
    simp (c.plain.ensures, c.room-then-fits.ensures, c.slot-then-fits.ensures, c.octet-then-fits.ensures, sym c.fits.ensures ∙ c.if-fits.true, sym c.begins-2.ensures ∙ c.if-begins-2.false, sym c.begins.ensures ∙ c.if-begins.false)

pub returns : goal.returns
unfolding head_of message_line
returns c =
    simp (c.change.ensures, sym c.fits.ensures ∙ c.if-fits.false, sym c.begins-2.ensures ∙ c.if-begins-2.false, sym c.begins.ensures ∙ c.if-begins.false)
