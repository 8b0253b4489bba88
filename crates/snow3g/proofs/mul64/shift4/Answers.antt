use Rattle.snow3g.proofs.Linear.{x4-at}
use Rattle.std.proofs.Common.{rules}
use Rattle.snow3g.proofs.mul64.shift4.Goals as goal

pub returns : goal.returns
returns c =
    x4-at c.args.u (search rules)
