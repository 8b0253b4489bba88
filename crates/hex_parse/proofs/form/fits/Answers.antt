use borrow.Author.Tests.{eq-eqb, ne_eqb}
use Rattle.hex_parse.specs.Form.{fits}
use Rattle.hex_parse.proofs.form.fits.Goals as goal

pub returns-then-text-form : goal.returns-then-text-form
unfolding fits
returns-then-text-form c =
    rw (eq-eqb _ _ c.if-text-form.true) c.begins.ensures

pub returns-else-text-form : goal.returns-else-text-form
unfolding fits
returns-else-text-form c =
    rw (ne_eqb _ _ c.if-text-form.false)
