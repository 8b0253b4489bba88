use borrow.Author.Tests.{lt-ltb, le-ltb}
use Rattle.hex_input.specs.Read.{octets_in}
use Rattle.hex_input.proofs.octets_in.Goals as goal

pub returns-then-n-le-HOLDS : goal.returns-then-n-le-HOLDS
unfolding octets_in
returns-then-n-le-HOLDS c =
    rw (le-ltb _ _ c.if-n-le-HOLDS.true)

pub returns-else-n-le-HOLDS : goal.returns-else-n-le-HOLDS
unfolding octets_in
returns-else-n-le-HOLDS c =
    rw (lt-ltb _ _ c.if-n-le-HOLDS.false)
