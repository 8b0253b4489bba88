use Prim.Native.Nat.{ℕ, ◌-◌, ◌≤◌}
use native.Mathlib.Omega.{arith}
use lib.ListN.{length, take, drop, length-drop}
use mathlib.Core.List.{List}
use mathlib.Core.Path.{◌≡◌}
use Rattle.hex_lines.specs.Line.{up_to}
use Rattle.hex_lines.proofs.Laws as laws
use Rattle.hex_lines.proofs.read.find.Goals as goal

pub returns : goal.returns
returns c =
    let rest : List ℕ = drop c.args.from c.args.text.now in
    let whole : take (length c.args.text.now - c.args.from) rest ≡ rest = laws.all c.args.text.now c.args.from in
    let u : c.unwrap_or.result ≡ length (up_to c.args.stop rest) = laws.place c.args.stop rest _ _ _ whole c.first.ensures c.unwrap_or.ensures in
    let w : length (up_to c.args.stop rest) ≤ length rest = laws.up_to-within c.args.stop rest in
    (omega arith, omega arith, omega (arith, length-drop c.args.from c.args.text.now))
