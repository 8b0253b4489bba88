use Rattle.std.proofs.Common.{◌≡◌, ◌-◌, ◌*◌, min, length, take, drop, ap, ◌∙◌, arith, length-drop}
use lib.Seq.{take_all}
use Rattle.snow3g.proofs.Blocks.{block-filled}
use Rattle.snow3g.proofs.integrity.block_at.Goals as goal

pub returns : goal.returns
returns c =
    let l = c.args.l.now in
    let k = c.args.i * 8 in
    let n = c.min-n.result in
    let rest : take (length l - k) (drop k l) ≡ drop k l = take_all _ _ (simp length-drop (omega arith)) in
    let least : n ≡ min (length l - k) 8 = c.min-n.ensures ∙ ap (λ x. min (length x) 8) rest ∙ ap (λ x. min x 8) (length-drop k l) in
    c.from_be_bytes.ensures ∙
    block-filled l _ c.args.i n (omega arith) (omega arith) (λ s. omega arith) (c.copy_from_slice.ensures.after ∙ ap (take n) rest)
