use Rattle.nas_core.specs.Keyed.{payload}
use Rattle.nas_core.proofs.Core.protect.Goals as goal

pub returns : goal.returns
unfolding payload
returns c =
    c.seal.ensures
