use native.Mathlib.Omega.{arith}
use borrow.Author.Tests.{lt-ltb, le-ltb}
use Rattle.hex_lines.specs.Hex.{char_of}
use Rattle.hex_lines.proofs.print.char_of.Goals as goal

pub returns-then-n-lt10 : goal.returns-then-n-lt10
unfolding char_of
returns-then-n-lt10 c =
    rw (lt-ltb _ 10 c.if-n-lt10.true) (omega arith)

pub returns-else-n-lt10 : goal.returns-else-n-lt10
unfolding char_of
returns-else-n-lt10 c =
    rw (le-ltb _ 10 c.if-n-lt10.false) (omega arith)
