use mathlib.Core.Path.{sym, ◌∙◌}
use Rattle.hex_parse.specs.Lines.{in_place_line}
use Rattle.hex_parse.proofs.heads.in_place.Goals as goal

pub returns-then-begins : goal.returns-then-begins
unfolding in_place_line
returns-then-begins c =
    simp (c.sealed.ensures, c.digit-then-begins.ensures, c.digit.ensures, c.octet.ensures, sym c.begins.ensures ∙ c.if-begins.true)

pub returns-then-begins-2 : goal.returns-then-begins-2
unfolding in_place_line
returns-then-begins-2 c =
    simp (c.opened.ensures, c.digit-then-begins-2-2.ensures, c.digit-then-begins-2.ensures, sym c.begins-2.ensures ∙ c.if-begins-2.true, sym c.begins.ensures ∙ c.if-begins.false)

pub returns-then-begins-3 : goal.returns-then-begins-3
unfolding in_place_line
returns-then-begins-3 c =
    simp (c.opened-then-begins-3.ensures, c.digit-then-begins-3-2.ensures, c.digit-then-begins-3.ensures, sym c.begins-3.ensures ∙ c.if-begins-3.true, sym c.begins-2.ensures ∙ c.if-begins-2.false, sym c.begins.ensures ∙ c.if-begins.false)

pub returns-then-fits : goal.returns-then-fits
unfolding in_place_line
returns-then-fits c =
    simp (c.plain.ensures, c.octet-then-fits.ensures, c.slot.ensures, sym c.fits.ensures ∙ c.if-fits.true, sym c.begins-3.ensures ∙ c.if-begins-3.false, sym c.begins-2.ensures ∙ c.if-begins-2.false, sym c.begins.ensures ∙ c.if-begins.false)

pub returns : goal.returns
unfolding in_place_line
returns c =
    simp (c.bad.ensures, sym c.fits.ensures ∙ c.if-fits.false, sym c.begins-3.ensures ∙ c.if-begins-3.false, sym c.begins-2.ensures ∙ c.if-begins-2.false, sym c.begins.ensures ∙ c.if-begins.false)
