use Rattle.aes.specs.Keys.{nea2_by}
use Rattle.aes.proofs.nas.nea2.Goals as goal

pub returns : goal.returns
unfolding nea2_by
returns c =
    c.nea2_under.ensures
