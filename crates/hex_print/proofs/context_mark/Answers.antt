use Rattle.hex_print.specs.Lines.{context_text}
use native.Mathlib.Omega.{arith}
use Rattle.hex_print.proofs.Laws as laws
use Rattle.hex_print.proofs.context_mark.Goals as goal

pub returns-then-is_changed : goal.returns-then-is_changed
unfolding context_text
returns-then-is_changed c =
    (rw c.if-is_changed.true c.text.ensures.0, omega (arith, c.text.ensures.1))

pub returns : goal.returns
unfolding context_text
returns c =
    (rw c.if-is_changed.false (laws.nothing _ _), omega arith)
