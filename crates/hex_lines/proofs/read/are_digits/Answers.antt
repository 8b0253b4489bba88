use mathlib.Core.Bool.{true, false}
use mathlib.Core.Path.{◌≡◌}
use Rattle.std.proofs.Common.{rules}
use Rattle.std.proofs.iter.runs.Made.{chains}
use Rattle.std.specs.List.{AllPass, Any}
use Rattle.hex_lines.specs.Hex.{is_digit}
use Rattle.hex_lines.proofs.Laws as laws
use Rattle.hex_lines.proofs.read.are_digits.Goals as goal

pub returns : goal.returns
returns c =
    let yes : c.all.result ≡ true → AllPass is_digit c.args.text.now = λ h. search (rules, chains) in
    let no : c.all.result ≡ false → Any (λ x. is_digit x ≡ false) c.args.text.now = λ h. search (rules, chains) in
    laws.digits-tested c.args.text.now c.all.result yes no
