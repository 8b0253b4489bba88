use mathlib.Core.Path.{refl}
use Rattle.aes_block.specs.Cipher.{to_state}
use Rattle.aes_block.proofs.cipher.to_state.Goals as goal

pub returns : goal.returns
unfolding to_state
returns c =
    refl
