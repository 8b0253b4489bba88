use native.Mathlib.Omega.{arith}
use Rattle.hex_print.specs.Lines.{end_text}
use Rattle.hex_print.proofs.Laws as laws
use Rattle.hex_print.proofs.put_end.Goals as goal

pub returns : goal.returns
unfolding end_text
returns c =
    (laws.behind (laws.behind c.tail-tailed.ensures.0 c.context_mark-marked.ensures.0) c.text.ensures.0, omega (arith, c.text.ensures.1, c.context_mark-marked.ensures.1, c.tail-tailed.ensures.1))
