use Rattle.std.proofs.Common.{◌≡◌}
use Rattle.zuc.specs.Windows.{some_bits}
use Rattle.zuc.proofs.integrity.hashed.Given as goal

abbrev pub invariant-loop-k : goal.invariant-loop-k
invariant-loop-k l = l.sum ≡ some_bits l.t l.y l.o l.k
