use Prim.Native.Nat.{◌≤◌}
use mathlib.Core.Path.{◌≡◌}
use lib.ListN.{length}
use Rattle.hex_input.proofs.held.Given as goal

abbrev pub invariant-loop-c : goal.invariant-loop-c
invariant-loop-c l = (length l.text ≡ length l.initial.text) × (l.n ≤ length l.initial.text → l.count ≤ length l.initial.text)
