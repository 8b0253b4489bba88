use Rattle.aes.specs.Cipher.{cipher}
use Rattle.aes.specs.Cmac.{subkey1}
use Rattle.aes.proofs.Mac.{of-zeros}
use Rattle.aes.proofs.cmac_mode.subkey.Goals as goal

pub returns : goal.returns
unfolding subkey1
returns c =
    rw (c.double.ensures, c.block_of.ensures, c.cmac_with.ensures, of-zeros (cipher c.args.w.now))
