use mathlib.Core.Path.{sym, ap, ◌∙◌}
use Rattle.hex_parse.proofs.Laws as laws
use borrow.Author.Tests.{eq-eqb, ne_eqb}
use Rattle.hex_parse.specs.Parsed.{counted, with_octets}
use Rattle.hex_parse.proofs.with_octets.Goals as goal

pub returns-then-text-eq0 : goal.returns-then-text-eq0
unfolding with_octets
returns-then-text-eq0 g c =
    (rw (eq-eqb _ _ c.if-text-eq0.true), laws.none_written c.args.text.now c.args.held.now c.if-text-eq0.true)

pub returns-then-is_none : goal.returns-then-is_none
unfolding with_octets
returns-then-is_none g c =
    (simp (ne_eqb _ _ c.if-text-eq0.false, sym c.is_none.ensures ∙ c.if-is_none.true), laws.dash-written c.args.text.now c.args.held.now (sym c.is_none.ensures ∙ c.if-is_none.true))

pub returns : goal.returns
unfolding with_octets
returns g c = (
  simp (ne_eqb _ _ c.if-text-eq0.false, sym c.is_none.ensures ∙ c.if-is_none.false) (c.counted.ensures ∙ ap (counted c.args.bad c.args.line) c.decode-decoded.ensures.0),
  c.decode-decoded.ensures.1,
)
