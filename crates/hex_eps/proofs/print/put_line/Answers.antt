use native.Mathlib.Omega.{arith}
use Rattle.hex_print.proofs.Laws as texts
use Rattle.hex_eps.proofs.Laws as laws
use Rattle.hex_eps.proofs.print.put_line.Goals as goal

pub returns : goal.returns
returns c =
    (laws.lined c.args.answer _ c.args.lent.now _ _ _ _ c.wrote-n.ensures c.front.ensures.0 c.after-rest.ensures (texts.behind c.answer_text-told.ensures.0 c.put_end.ensures.0), omega (arith, c.put_end.ensures.1, c.answer_text-told.ensures.1, c.front.ensures.1))
