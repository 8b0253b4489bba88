use Rattle.std.proofs.Common.{rules}
use Rattle.snow3g.specs.Words.{octet0, octet3}
use Rattle.snow3g.specs.Machine.{feedback}
use Rattle.snow3g.proofs.Alphas.{mul-at, div-at}
use Rattle.snow3g.proofs.machine.feedback.Goals as goal

pub returns : goal.returns
unfolding feedback
returns c =
    rw (mul-at (octet0 c.args.s0) (search rules), div-at (octet3 c.args.s11) (search rules))
