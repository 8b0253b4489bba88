use mathlib.Core.Path.{◌≡◌}
use Prim.Native.Nat.{◌-◌, ◌≤◌}
use lib.ListN.{length}
use Rattle.initial.specs.Walk.{walk_from, container_in}
use Rattle.initial.proofs.Walks.{more}
use Rattle.initial.proofs.walk.Given as goal

abbrev pub invariant-loop-at : goal.invariant-loop-at
invariant-loop-at l =
    (l.at ≤ length l.message)
    × (more l.found (walk_from l.message (length l.message) l.at) ≡ container_in (walk_from l.message (length l.message) l.from))

abbrev pub decreases-loop-at : goal.decreases-loop-at
decreases-loop-at l = length l.message - l.at
