use borrow.Author.Tests.{eq-eqb, ne_eqb}
use Rattle.hex_parse.specs.Parsed.{is_none}
use Rattle.hex_parse.proofs.is_none.Goals as goal

pub returns-then-text-eq1 : goal.returns-then-text-eq1
unfolding is_none
returns-then-text-eq1 c =
    rw (eq-eqb _ _ c.if-text-eq1.true)

pub returns-else-text-eq1 : goal.returns-else-text-eq1
unfolding is_none
returns-else-text-eq1 c =
    rw (ne_eqb _ _ c.if-text-eq1.false)
