use Rattle.hex_eps.specs.Lines.{request_text}
use native.Mathlib.Omega.{arith}
use Rattle.hex_print.proofs.Laws as laws
use Rattle.hex_eps.proofs.print.put_request.Goals as goal

pub returns : goal.returns
unfolding request_text
returns c =
    (laws.behind (laws.behind (laws.behind c.accepted-next.ensures.0 c.word-typed.ensures.0) c.word-named.ensures.0) c.octets.ensures.0, omega (arith, c.octets.ensures.1, c.word-named.ensures.1, c.word-typed.ensures.1, c.accepted-next.ensures.1))
