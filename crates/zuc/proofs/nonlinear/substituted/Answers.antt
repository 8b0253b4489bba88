use Rattle.std.proofs.Common.{get_or, ap, ◌∙◌}
use Rattle.aes.specs.Octets.{number}
use Rattle.aes.proofs.Lists.{four-by}
use Rattle.streams.proofs.Bytes.{number-of4}
use Rattle.zuc.specs.Boxes.{s0, s1}
use Rattle.zuc.specs.Nonlinear.{boxes}
use Rattle.zuc.proofs.nonlinear.substituted.Goals as goal

pub returns : goal.returns
unfolding boxes
returns c =
    let b = c.to_be_bytes.ensures in
    c.from_be_bytes.ensures ∙ number-of4 _ _ _ _ ∙
    ap number
    (four-by
    (c.sub_s0.ensures ∙ ap (λ l. s0 (get_or l 0 0)) b)
    (c.sub_s1.ensures ∙ ap (λ l. s1 (get_or l 1 0)) b)
    (c.sub_s0-2.ensures ∙ ap (λ l. s0 (get_or l 2 0)) b)
    (c.sub_s1-2.ensures ∙ ap (λ l. s1 (get_or l 3 0)) b))
