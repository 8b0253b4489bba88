use Rattle.snow3g.proofs.Blocks.{bit_length}
use Rattle.snow3g.specs.Uia2.{closed}
use Rattle.snow3g.proofs.integrity.closed.Goals as goal

pub returns : goal.returns
unfolding closed
returns c =
    rw (c.times.ensures, c.of.ensures, c.eval.ensures, bit_length)
