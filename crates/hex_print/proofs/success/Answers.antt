use native.Mathlib.Omega.{arith}
use Rattle.hex_print.proofs.Laws as laws
use Rattle.hex_print.proofs.success.Goals as goal

pub returns : goal.returns
returns c =
    (laws.behind c.text-next.ensures.0 c.used.ensures.0, omega (arith, c.used.ensures.1, c.text-next.ensures.1))
