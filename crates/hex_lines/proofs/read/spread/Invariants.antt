use Prim.Native.Nat.{◌-◌, ◌/◌, ◌≤◌}
use mathlib.Core.Path.{◌≡◌}
use lib.ListN.{length}
use lib.Seq.{paste}
use Rattle.hex_lines.specs.Hex.{octets_of}
use Rattle.hex_lines.proofs.read.spread.Given as goal

abbrev pub invariant-loop-i : goal.invariant-loop-i
invariant-loop-i l = (l.i ≤ length l.text / 2) × (l.out ≡ paste l.initial.out 0 (octets_of l.text) l.i)

abbrev pub decreases-loop-i : goal.decreases-loop-i
decreases-loop-i l = length l.text / 2 - l.i
