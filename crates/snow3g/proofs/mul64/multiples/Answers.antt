use Rattle.snow3g.proofs.Linear.{sixteen-products}
use Rattle.std.proofs.Common.{rules}
use Rattle.snow3g.proofs.mul64.multiples.Goals as goal

pub returns : goal.returns
returns c =
    sixteen-products c.args.p c.mul64x-a.result c.mul64x-b.result c.mul64x-c.result
    (search rules) c.mul64x-a.ensures c.mul64x-b.ensures c.mul64x-c.ensures
