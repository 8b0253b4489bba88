use mathlib.Core.Path.{sym, ◌∙◌}
use Rattle.hex_lines.proofs.Texts as texts
use Rattle.hex_lines.proofs.read.decode.Goals as goal

pub returns-then-text-ne0 : goal.returns-then-text-ne0
returns-then-text-ne0 c =
    texts.none _ _ (texts.odd _ c.if-text-ne0.true)

pub returns-then-not-are_digits : goal.returns-then-not-are_digits
returns-then-not-are_digits c =
    texts.none _ _ (texts.strange _ (sym c.are_digits.ensures ∙ c.if-not-are_digits.true))

pub returns-then-out-text : goal.returns-then-out-text
returns-then-out-text c =
    texts.long _ _ (texts.even _ c.if-text-ne0.false (sym c.are_digits.ensures ∙ c.if-not-are_digits.false))
    c.if-out-text.true

pub returns : goal.returns
returns c =
    texts.fits _ _ _ (texts.even _ c.if-text-ne0.false (sym c.are_digits.ensures
    ∙ c.if-not-are_digits.false)) c.if-out-text.false c.spread.ensures
