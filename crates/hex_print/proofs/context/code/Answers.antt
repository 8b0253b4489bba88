use mathlib.Core.Path.{sym}
use mathlib.Core.List.{[], ◌∷◌}
use Rattle.hex_lines.proofs.Laws as hex
use native.Mathlib.Omega.{arith}
use Rattle.hex_print.proofs.Laws as laws
use Rattle.hex_print.proofs.context.code.Goals as goal

pub returns : goal.returns
returns c =
    (laws.pasted {at = c.args.at} {n = 2} c.put_octets.ensures.0 c.put_octets.ensures.1 (sym (hex.text-length (c.args.octet ∷ []))) (omega arith), omega (arith, c.put_octets.ensures.0))
