use Rattle.std.proofs.Common.{◌≡◌, ◌*◌}
use Rattle.zuc.proofs.Walk.{moved_by}
use Rattle.zuc.proofs.Hashes.{hash_by}
use Rattle.zuc.proofs.integrity.code_with.Given as goal

abbrev pub invariant-loop-n : goal.invariant-loop-n
invariant-loop-n l =
    record {
      hashed : l.t ≡ hash_by l.initial.v l.m (l.n * 4);
      moved : l.v ≡ moved_by l.n l.initial.v;
    }
