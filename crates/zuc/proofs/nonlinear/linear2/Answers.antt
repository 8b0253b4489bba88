use Rattle.std.proofs.Common.{refl, ap, ap₂, ◌∙◌, rules}
use lib.Bits.{bit_xor}
use Rattle.streams.proofs.Bytes.{left-turn}
use Rattle.zuc.specs.Nonlinear.{l2}
use Rattle.zuc.proofs.nonlinear.linear2.Goals as goal

pub returns : goal.returns
unfolding l2
returns c =
    ap₂ bit_xor
    (ap₂ bit_xor
    (ap₂ bit_xor
    (ap (bit_xor c.args.x) (c.rotate_left.ensures ∙ left-turn c.args.x 24 8 refl (search rules)))
    (c.rotate_left-2.ensures ∙ left-turn c.args.x 18 14 refl (search rules)))
    (c.rotate_left-3.ensures ∙ left-turn c.args.x 10 22 refl (search rules)))
    (c.rotate_left-4.ensures ∙ left-turn c.args.x 2 30 refl (search rules))
