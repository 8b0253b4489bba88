use Rattle.std.proofs.Common.{◌≡◌}
use Rattle.zuc.specs.Windows.{hash_part}
use Rattle.zuc.proofs.integrity.hash_part.Given as goal

abbrev pub invariant-loop-i : goal.invariant-loop-i
invariant-loop-i l = l.sum ≡ hash_part l.t l.v l.part l.i
