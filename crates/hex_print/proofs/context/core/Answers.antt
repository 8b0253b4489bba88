use Rattle.hex_print.specs.Lines.{core_text}
use native.Mathlib.Omega.{arith}
use Rattle.hex_print.proofs.Laws as laws
use Rattle.hex_print.proofs.context.core.Goals as goal

pub returns : goal.returns
unfolding core_text
returns c =
    (laws.behind (laws.behind (laws.behind (laws.behind c.code-first.ensures.0 c.word-coded.ensures.0) c.key-one.ensures.0) c.key-two.ensures.0) c.word.ensures.0, omega (arith, c.word.ensures.1, c.key-two.ensures.1, c.key-one.ensures.1, c.word-coded.ensures.1, c.code-first.ensures.1))
