use Rattle.std.proofs.Common.{◌≡◌, length, take}
use Rattle.aes.proofs.Over.{over}
use Rattle.aes.proofs.counter_mode.xor_part.Given as goal

abbrev pub invariant-loop-q : goal.invariant-loop-q
invariant-loop-q l = (length l.m ≡ length l.initial.m) × (l.m ≡ over l.initial.m l.i (take l.q l.k))
