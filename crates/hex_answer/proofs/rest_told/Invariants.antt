use Rattle.std.proofs.Common.{◌≤◌}
use Rattle.hex_answer.proofs.rest_told.Given as goal

abbrev pub invariant-loop-piece : goal.invariant-loop-piece
invariant-loop-piece l = l.end ≤ 65536
