use mathlib.Core.Path.{sym, ◌∙◌}
use Rattle.hex_eps_parse.specs.Lines.{state_line}
use Rattle.hex_eps_parse.proofs.heads.state.Goals as goal

pub returns-then-fits : goal.returns-then-fits
unfolding state_line
returns-then-fits c =
    simp (c.restore.ensures, sym c.fits.ensures ∙ c.if-fits.true)

pub returns-then-fits-2 : goal.returns-then-fits-2
unfolding state_line
returns-then-fits-2 c =
    simp (c.raw.ensures, sym c.fits-2.ensures ∙ c.if-fits-2.true, sym c.fits.ensures ∙ c.if-fits.false)

pub returns-then-fits-3 : goal.returns-then-fits-3
unfolding state_line
returns-then-fits-3 c =
    simp (c.plain.ensures, c.slot.ensures, sym c.fits-3.ensures ∙ c.if-fits-3.true, sym c.fits-2.ensures ∙ c.if-fits-2.false, sym c.fits.ensures ∙ c.if-fits.false)

pub returns : goal.returns
unfolding state_line
returns c =
    simp (c.bad.ensures, sym c.fits-3.ensures ∙ c.if-fits-3.false, sym c.fits-2.ensures ∙ c.if-fits-2.false, sym c.fits.ensures ∙ c.if-fits.false)
