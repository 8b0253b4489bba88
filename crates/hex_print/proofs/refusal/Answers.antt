use native.Mathlib.Omega.{arith}
use Rattle.hex_print.proofs.Laws as laws
use Rattle.hex_print.proofs.refusal.Goals as goal

pub returns : goal.returns
returns c =
    (laws.behind c.text-next.ensures.0 c.decimal.ensures.0, omega (arith, c.decimal.ensures.1, c.text-next.ensures.1))
