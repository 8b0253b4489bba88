use native.Mathlib.Omega.{arith}
use Rattle.hex_print.proofs.Laws as laws
use Rattle.hex_print.proofs.put_opened.Goals as goal

pub returns : goal.returns
returns c =
    (laws.behind (laws.behind c.accepted-next.ensures.0 c.word-typed.ensures.0) c.octets.ensures.0, omega (arith, c.octets.ensures.1, c.word-typed.ensures.1, c.accepted-next.ensures.1))
