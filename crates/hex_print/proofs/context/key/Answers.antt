use native.Mathlib.Omega.{arith}
use Rattle.hex_print.proofs.context.key.Goals as goal

pub returns : goal.returns
returns c =
    (rw (← c.octets-octets.ensures) c.octets.ensures.0, omega (arith, c.octets.ensures.1, c.octets-octets.type_inv.1.0.1))
