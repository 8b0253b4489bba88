use Rattle.std.proofs.Common.{le-ltb, lt-ltb}
use Rattle.snow3g.specs.Uia2.{mul64x}
use Rattle.snow3g.proofs.mul64.mul64x.Goals as goal

pub returns-then-v-lt9223372036854775808 : goal.returns-then-v-lt9223372036854775808
unfolding mul64x
returns-then-v-lt9223372036854775808 c =
    simp (lt-ltb _ _ c.if-v-lt9223372036854775808.true)

pub returns-else-v-lt9223372036854775808 : goal.returns-else-v-lt9223372036854775808
unfolding mul64x
returns-else-v-lt9223372036854775808 c =
    simp (le-ltb _ _ c.if-v-lt9223372036854775808.false)
