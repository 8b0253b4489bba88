use mathlib.Core.Path.{sym, ◌∙◌}
use Rattle.hex_eps_parse.specs.Lines.{change_line}
use Rattle.hex_eps_parse.proofs.heads.change.Goals as goal

pub returns-then-fits : goal.returns-then-fits
unfolding change_line
returns-then-fits c =
    simp (c.selected.ensures, c.octet-then-fits.ensures, c.octet.ensures, sym c.fits.ensures ∙ c.if-fits.true)

pub returns-then-fits-2 : goal.returns-then-fits-2
unfolding change_line
returns-then-fits-2 c =
    simp (c.selected-then-fits-2.ensures, c.octet-then-fits-2-2.ensures, c.octet-then-fits-2.ensures, sym c.fits-2.ensures ∙ c.if-fits-2.true, sym c.fits.ensures ∙ c.if-fits.false)

pub returns-then-fits-3 : goal.returns-then-fits-3
unfolding change_line
returns-then-fits-3 c =
    simp (c.plain.ensures, c.octet-then-fits-3.ensures, c.slot.ensures, sym c.fits-3.ensures ∙ c.if-fits-3.true, sym c.fits-2.ensures ∙ c.if-fits-2.false, sym c.fits.ensures ∙ c.if-fits.false)

pub returns : goal.returns
unfolding change_line
returns c =
    simp (c.state.ensures, sym c.fits-3.ensures ∙ c.if-fits-3.false, sym c.fits-2.ensures ∙ c.if-fits-2.false, sym c.fits.ensures ∙ c.if-fits.false)
