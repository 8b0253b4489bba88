use Rattle.std.proofs.Common.{◌≡◌, ◌%◌, sym, one-mul, zero-mul, arith}
use Rattle.zuc.proofs.integrity.chosen.Goals as goal

pub returns-then-o-eq0 : goal.returns-then-o-eq0
returns-then-o-eq0 c =
    let e : c.args.o % 2 ≡ 0 = c.if-o-eq0.true in sym (rw e (zero-mul _))

pub returns-else-o-eq0 : goal.returns-else-o-eq0
returns-else-o-eq0 c =
    let e : c.args.o % 2 ≡ 1 = omega arith in sym (rw e (one-mul _))
