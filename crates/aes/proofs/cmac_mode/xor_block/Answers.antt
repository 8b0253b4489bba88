use Rattle.aes_block.proofs.Lists.{xor-places}
use Rattle.aes.proofs.cmac_mode.xor_block.Goals as goal

pub returns : goal.returns
returns c =
    xor-places 16 _ _ c.well_formed.0.1.0.1 c.well_formed.1.0.1.0.1
