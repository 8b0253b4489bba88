use Rattle.std.proofs.Common.{◌≡◌}
use Rattle.streams.specs.Stream.{after}
use Rattle.streams.proofs.started.Given as goal

abbrev pub invariant-loop-turn : goal.invariant-loop-turn
invariant-loop-turn g l = l.machine ≡ after g.M.Machine.initialise l._turn l.initial.machine
