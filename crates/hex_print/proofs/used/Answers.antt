use Rattle.hex_print.specs.Lines.{used_text}
use native.Mathlib.Omega.{arith}
use Rattle.hex_print.proofs.Laws as laws
use Rattle.hex_print.proofs.used.Goals as goal

pub returns : goal.returns
unfolding used_text
returns c =
    (laws.behind c.word-next.ensures.0 c.word.ensures.0, omega (arith, c.word.ensures.1, c.word-next.ensures.1))
