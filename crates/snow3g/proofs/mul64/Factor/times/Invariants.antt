use Rattle.std.proofs.Common.{◌≡◌, ◌-◌, ◌*◌, ◌/◌, ◌^◌}
use Rattle.snow3g.specs.Uia2.{mul64}
use Rattle.snow3g.proofs.mul64.Factor.times.Given as goal

abbrev pub invariant-loop-turn : goal.invariant-loop-turn
invariant-loop-turn l = l.sum ≡ mul64 (l.v / 2 ^ (64 - l.turn * 4)) l.self.p 0x1B
