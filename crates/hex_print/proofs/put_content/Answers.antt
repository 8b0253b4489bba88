use native.Mathlib.Omega.{arith}
use Rattle.hex_print.proofs.Laws as laws
use Rattle.hex_print.proofs.put_content.Goals as goal

pub returns : goal.returns
returns c =
    (laws.behind (laws.behind (laws.behind c.content-next.ensures.0 c.word-typed.ensures.0) c.decimal-carried.ensures.0) c.octets.ensures.0, omega (arith, c.octets.ensures.1, c.decimal-carried.ensures.1, c.word-typed.ensures.1, c.content-next.ensures.1))
