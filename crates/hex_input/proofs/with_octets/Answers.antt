use mathlib.Core.Path.{sym, ◌∙◌}
use Rattle.hex_input.specs.Read.{ended}
use Rattle.hex_input.proofs.with_octets.Goals as goal

pub returns-then-is_some : goal.returns-then-is_some
unfolding ended
returns-then-is_some g c =
    rw (sym c.is_some.ensures ∙ c.if-is_some.true, c.octets_in-line.ensures)

pub returns-else-is_some : goal.returns-else-is_some
unfolding ended
returns-else-is_some g c =
    rw (sym c.is_some.ensures ∙ c.if-is_some.false)
