use Rattle.std.proofs.Common.{◌∙◌, rules}
use Rattle.snow3g.proofs.Words.{s2-box}
use Rattle.snow3g.proofs.boxes.s2_word.Goals as goal

pub returns : goal.returns
returns c =
    c.substituted.ensures ∙ s2-box c.args.w (search rules)
