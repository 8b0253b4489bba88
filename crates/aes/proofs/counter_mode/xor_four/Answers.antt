use Rattle.std.proofs.Common.{arith, length-set}
use Rattle.aes.proofs.Over.{stored}
use Rattle.aes.proofs.counter_mode.xor_four.Goals as goal

pub bounds-m-i-6 : goal.bounds-m-i-6
bounds-m-i-6 c =
    simp length-set (omega arith)

pub bounds-m-i-7 : goal.bounds-m-i-7
bounds-m-i-7 c =
    simp length-set (omega arith)

pub returns : goal.returns
returns c =
    let a = c.args in
    stored a.m.now a.k a.i (omega arith)
