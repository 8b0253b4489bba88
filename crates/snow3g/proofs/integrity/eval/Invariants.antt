use Rattle.std.proofs.Common.{◌≡◌}
use Rattle.snow3g.specs.Uia2.{eval}
use Rattle.snow3g.proofs.integrity.eval.Given as goal

abbrev pub invariant-loop-i : goal.invariant-loop-i
invariant-loop-i l = l.sum ≡ eval l.p l.l l.i
