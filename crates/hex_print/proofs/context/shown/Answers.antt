use Rattle.hex_print.specs.Lines.{shown_text}
use native.Mathlib.Omega.{arith}
use Rattle.hex_print.proofs.Laws as laws
use Rattle.hex_print.proofs.context.shown.Goals as goal

pub returns : goal.returns
unfolding shown_text
returns c =
    (laws.behind (laws.behind (laws.behind (laws.behind c.core-next.ensures.0 c.record-a.ensures.0) c.record-b.ensures.0) c.record-c.ensures.0) c.record.ensures.0, omega (arith, c.record.ensures.1, c.record-c.ensures.1, c.record-b.ensures.1, c.record-a.ensures.1, c.core-next.ensures.1))
