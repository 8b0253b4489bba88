use native.Mathlib.Omega.{arith}
use Rattle.hex_print.proofs.Laws as laws
use Rattle.hex_print.proofs.put_line.Goals as goal

pub returns : goal.returns
returns c =
    (laws.lined c.args.answer _ c.args.lent.now c.args.beside.now _ _ _ _ _ _ _ c.wrote-n.ensures c.second-m.ensures c.front.ensures.0 c.front-2.ensures.0 c.after-rest.ensures c.after.ensures (laws.behind (laws.behind c.answer_text-told.ensures.0 c.second_text-next.ensures.0) c.put_end.ensures.0), omega (arith, c.put_end.ensures.1, c.second_text-next.ensures.1, c.answer_text-told.ensures.1, c.front.ensures.1, c.front-2.ensures.1))
