use Prim.Native.Nat.{◌-◌, ◌≤◌}
use mathlib.Core.Path.{◌≡◌}
use lib.ListN.{length, drop}
use Rattle.hex_parse.specs.Form.{begins}
use Rattle.hex_parse.proofs.form.begins.Given as goal

abbrev pub invariant-loop-i : goal.invariant-loop-i
invariant-loop-i l = (l.i ≤ length l.form) × (begins (drop l.i l.form) (drop l.i l.text) ≡ begins l.form l.text)

abbrev pub decreases-loop-i : goal.decreases-loop-i
decreases-loop-i l = length l.form - l.i
