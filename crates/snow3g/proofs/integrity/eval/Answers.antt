use Rattle.std.proofs.Common.{◌≡◌, ◌+◌, ◌/◌, length, refl, add-one, arith}
use Rattle.snow3g.specs.Uia2.{eval}
use Rattle.snow3g.proofs.integrity.eval.Goals as goal

pub loop-i-init : goal.loop-i-init
unfolding eval
loop-i-init c = refl

pub loop-i-preserved : goal.loop-i-preserved
unfolding eval
loop-i-preserved c =
    rw (c.times-sum.ensures, c.of-factor.ensures, c.block_at.ensures, add-one, c.loop-i.invariant)

pub returns : goal.returns
returns c =
    let e : c.loop-i.i ≡ (length c.args.l.now + 7) / 8 = omega (arith, c.div_ceil-i-end.ensures) in
    rw e at c.loop-i.invariant
