use Prim.Native.Nat.{◌-◌, ◌*◌, ◌≤◌}
use mathlib.Core.Path.{◌≡◌}
use lib.ListN.{length}
use lib.Seq.{paste}
use Rattle.hex_lines.specs.Hex.{text_of}
use Rattle.hex_lines.proofs.print.put_octets.Given as goal

abbrev pub invariant-loop-i : goal.invariant-loop-i
invariant-loop-i l = (l.i ≤ length l.octets) × (l.out ≡ paste l.initial.out l.at (text_of l.octets) (l.i * 2))

abbrev pub decreases-loop-i : goal.decreases-loop-i
decreases-loop-i l = length l.octets - l.i
