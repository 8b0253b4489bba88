use mathlib.Core.Path.{sym, ◌∙◌}
use Rattle.hex_parse.specs.Lines.{container_line}
use Rattle.hex_parse.proofs.heads.container.Goals as goal

pub returns-then-fits : goal.returns-then-fits
unfolding container_line
returns-then-fits c =
    simp (c.plain.ensures, c.slot.ensures, sym c.fits.ensures ∙ c.if-fits.true)

pub returns-then-fits-2 : goal.returns-then-fits-2
unfolding container_line
returns-then-fits-2 c =
    simp (c.plain-then-fits-2.ensures, c.octet.ensures, c.slot-then-fits-2.ensures, sym c.fits-2.ensures ∙ c.if-fits-2.true, sym c.fits.ensures ∙ c.if-fits.false)

pub returns-then-fits-3 : goal.returns-then-fits-3
unfolding container_line
returns-then-fits-3 c =
    simp (c.plain-then-fits-3.ensures, c.room.ensures, c.slot-then-fits-3.ensures, c.octet-then-fits-3-2.ensures, c.octet-then-fits-3.ensures, sym c.fits-3.ensures ∙ c.if-fits-3.true, sym c.fits-2.ensures ∙ c.if-fits-2.false, sym c.fits.ensures ∙ c.if-fits.false)

pub returns-then-begins : goal.returns-then-begins
unfolding container_line
returns-then-begins c =
    simp (c.headed.ensures, c.slot-then-begins.ensures, sym c.begins.ensures ∙ c.if-begins.true, sym c.fits-3.ensures ∙ c.if-fits-3.false, sym c.fits-2.ensures ∙ c.if-fits-2.false, sym c.fits.ensures ∙ c.if-fits.false)

pub returns : goal.returns
unfolding container_line
returns c =
    simp (c.state.ensures, sym c.begins.ensures ∙ c.if-begins.false, sym c.fits-3.ensures ∙ c.if-fits-3.false, sym c.fits-2.ensures ∙ c.if-fits-2.false, sym c.fits.ensures ∙ c.if-fits.false)
