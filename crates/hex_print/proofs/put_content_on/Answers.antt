use native.Mathlib.Omega.{arith}
use Rattle.hex_print.proofs.Laws as laws
use Rattle.hex_print.proofs.put_content_on.Goals as goal

pub returns : goal.returns
returns c =
    (laws.behind (laws.behind (laws.behind (laws.behind (laws.behind c.refusal-next.ensures.0 c.decimal-taken.ensures.0) c.received-far.ensures.0) c.word-typed.ensures.0) c.decimal-carried.ensures.0) c.octets.ensures.0, omega (arith, c.refusal-next.ensures.1, c.decimal-taken.ensures.1, c.received-far.ensures.1, c.word-typed.ensures.1, c.decimal-carried.ensures.1, c.octets.ensures.1))
