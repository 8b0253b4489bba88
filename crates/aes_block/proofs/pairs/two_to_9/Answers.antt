use mathlib.Core.Path.{◌≡◌, ap₂, ◌∙◌}
use mathlib.Core.List.{◌++◌}
use Rattle.aes_block.specs.Mix.{onward}
use Rattle.aes_block.proofs.Rounds.{first, second, three}
use Rattle.aes_block.proofs.pairs.two_to_9.Goals as goal

pub returns : goal.returns
returns c =
    let a = c.args in
    let w = a.w.now in
    let v = a.v.now in
    let e = c.two_to_6-s.ensures in
    let p : c.left.result ≡ onward w 4 a.p = c.left.ensures ∙ first w v a.p a.q _ 3 e in
    let q : c.right.result ≡ onward v 4 a.q = c.right.ensures ∙ second w v a.p a.q _ 3 e in
    c.beside.ensures ∙
    ap₂ ◌++◌
    (three w 4 a.p _ _ _ _ p c.middle_round-a.ensures c.middle_round-c.ensures c.middle_round-e.ensures)
    (three v 4 a.q _ _ _ _ q c.middle_round-b.ensures c.middle_round-d.ensures c.middle_round.ensures)
