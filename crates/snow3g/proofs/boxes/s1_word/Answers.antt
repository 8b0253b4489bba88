use Rattle.std.proofs.Common.{◌∙◌, rules}
use Rattle.snow3g.proofs.Words.{s1-box}
use Rattle.snow3g.proofs.boxes.s1_word.Goals as goal

pub returns : goal.returns
returns c =
    c.substituted.ensures ∙ s1-box c.args.w (search rules)
