use Rattle.hex_print.specs.Lines.{content_text}
use native.Mathlib.Omega.{arith}
use Rattle.hex_print.proofs.Laws as laws
use Rattle.hex_print.proofs.content.Goals as goal

pub returns : goal.returns
unfolding content_text
returns c =
    (laws.behind c.refusal-next.ensures.0 c.received.ensures.0, omega (arith, c.received.ensures.1, c.refusal-next.ensures.1))
