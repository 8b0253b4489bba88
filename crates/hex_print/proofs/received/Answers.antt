use Rattle.hex_print.specs.Lines.{received_text}
use native.Mathlib.Omega.{arith}
use Rattle.hex_print.proofs.Laws as laws
use Rattle.hex_print.proofs.received.Goals as goal

pub returns : goal.returns
unfolding received_text
returns c =
    (laws.behind (laws.behind c.word-next.ensures.0 c.word-far.ensures.0) c.word.ensures.0, omega (arith, c.word.ensures.1, c.word-far.ensures.1, c.word-next.ensures.1))
