use Prim.Native.Nat.{◌≤◌}
use mathlib.Core.Path.{◌≡◌}
use lib.ListN.{length}
use Rattle.hex_input.proofs.decoded.Given as goal

abbrev pub invariant-loop-c : goal.invariant-loop-c
invariant-loop-c l = (length l.octets ≡ length l.initial.octets) × (l.digits ≤ 131074 → l.count ≤ 131074)
