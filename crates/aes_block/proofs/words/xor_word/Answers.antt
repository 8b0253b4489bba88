use Rattle.aes_block.proofs.Lists.{xor-places}
use Rattle.aes_block.proofs.words.xor_word.Goals as goal

pub returns : goal.returns
returns c =
    xor-places 4 _ _ c.well_formed.0.1.0.1 c.well_formed.1.0.1.0.1
