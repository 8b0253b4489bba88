use Rattle.std.proofs.Common.{refl, ap, ap₂, ◌∙◌, rules}
use lib.Bits.{bit_xor}
use Rattle.streams.proofs.Bytes.{left-turn}
use Rattle.zuc.specs.Nonlinear.{l1}
use Rattle.zuc.proofs.nonlinear.linear1.Goals as goal

pub returns : goal.returns
unfolding l1
returns c =
    ap₂ bit_xor
    (ap₂ bit_xor
    (ap₂ bit_xor
    (ap (bit_xor c.args.x) (c.rotate_left.ensures ∙ left-turn c.args.x 30 2 refl (search rules)))
    (c.rotate_left-2.ensures ∙ left-turn c.args.x 22 10 refl (search rules)))
    (c.rotate_left-3.ensures ∙ left-turn c.args.x 14 18 refl (search rules)))
    (c.rotate_left-4.ensures ∙ left-turn c.args.x 8 24 refl (search rules))
