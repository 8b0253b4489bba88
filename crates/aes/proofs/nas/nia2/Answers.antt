use Rattle.std.proofs.Common.{take, ap, ◌∙◌}
use Rattle.aes.specs.Keys.{nia2_by}
use Rattle.aes.proofs.nas.nia2.Goals as goal

pub returns : goal.returns
unfolding nia2_by
returns c =
    c.code_of.ensures ∙ ap (take 4) c.cmac_with.ensures ∙ rw c.head-h.ensures
