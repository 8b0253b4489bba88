use Rattle.std.proofs.Common.{◌≡◌, length}
use Rattle.streams.specs.Covers.{covered}
use Rattle.streams.proofs.cover.Given as goal

abbrev pub invariant-loop-j : goal.invariant-loop-j
invariant-loop-j l = record { long : length l.l ≡ length l.initial.l; so_far : l.l ≡ covered l.initial.l l.i l.k l.j }
