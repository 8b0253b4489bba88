use Rattle.std.proofs.Common.{le-ltb, lt-ltb}
use Rattle.aes.specs.Cmac.{double}
use Rattle.aes.proofs.cmac_mode.double.Goals as goal

pub returns-then-x-lt128 : goal.returns-then-x-lt128
unfolding double
returns-then-x-lt128 c =
    rw (c.shift_left.ensures, lt-ltb _ _ c.if-x-lt128.true)

pub returns-else-x-lt128 : goal.returns-else-x-lt128
unfolding double
returns-else-x-lt128 c =
    rw (c.xor_block.ensures, c.shift_left-else-x-lt128.ensures, le-ltb _ _ c.if-x-lt128.false)
