use Rattle.std.proofs.Common.{add-zero}
use Rattle.aes.specs.Cipher.{to_state}
use Rattle.aes.proofs.cmac_mode.state_at.Goals as goal

pub returns : goal.returns
unfolding to_state
returns c =
    rw add-zero
