use Prim.Native.Nat.{◌^◌, ◌<◌}
use mathlib.Core.Path.{◌≡◌}
use lib.ListN.{drop}
use Rattle.hex_lines.specs.Hex.{number_after}
use Rattle.hex_lines.proofs.read.value.Given as goal

abbrev pub invariant-loop-c : goal.invariant-loop-c
invariant-loop-c l = (l.n < 16 ^ l.c-index) × (number_after l.n (drop l.c-index l.text) ≡ number_after 0 l.text)
