use Rattle.hex_print.specs.Lines.{record_text}
use native.Mathlib.Omega.{arith}
use Rattle.hex_print.proofs.Laws as laws
use Rattle.hex_print.proofs.context.record.Goals as goal

pub returns : goal.returns
unfolding record_text
returns c =
    (laws.behind c.word-next.ensures.0 c.word.ensures.0, omega (arith, c.word.ensures.1, c.word-next.ensures.1))
