use native.Mathlib.Omega.{arith}
use Rattle.hex_print.proofs.Laws as laws
use Rattle.hex_print.proofs.put_second.Goals as goal

pub returns : goal.returns
returns c =
    (laws.behind c.word-next.ensures.0 c.octets.ensures.0, omega (arith, c.octets.ensures.1, c.word-next.ensures.1))
