use native.Mathlib.Omega.{arith}
use Rattle.hex_print.proofs.Laws as laws
use Rattle.hex_print.proofs.put_used.Goals as goal

pub returns : goal.returns
returns c =
    (laws.behind c.success-next.ensures.0 c.octets.ensures.0, omega (arith, c.octets.ensures.1, c.success-next.ensures.1))
