use native.Mathlib.Numerals.{add-one}
use native.Mathlib.Omega.{arith}
use Rattle.hex_lines.proofs.Laws as laws
use Rattle.hex_lines.proofs.read.value.Goals as goal

-- At each turn, the number so far and the digits left make the whole; a number of so many digits is below that power of 16.

pub with_digit-n-requires : goal.with_digit-n-requires
with_digit-n-requires c =
    laws.small c.loop-c.c-index _ (omega arith) c.loop-c.invariant.0

pub loop-c-preserved : goal.loop-c-preserved
loop-c-preserved c = (
  rw add-one (laws.grown c.loop-c.c-index _ _ c.loop-c.invariant.0 c.with_digit-n.ensures.1),
  laws.number-go _ c.loop-c.c-index (omega arith) _ _ c.with_digit-n.ensures.0 c.loop-c.invariant.1,
)

pub returns : goal.returns
returns c = (
  laws.number-end _ c.loop-c.c-index _ (omega arith) c.loop-c.invariant.1,
  laws.wider c.loop-c.c-index _ _ (omega arith) c.loop-c.invariant.0,
)
