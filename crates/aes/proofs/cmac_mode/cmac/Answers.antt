use Rattle.aes.specs.Cmac.{subkey2, cmac_of}
use Rattle.aes.proofs.cmac_mode.cmac.Goals as goal

pub returns : goal.returns
unfolding cmac_of subkey2
returns c =
    rw (c.block_of.ensures, c.cmac_with.ensures, c.double-k2.ensures, c.subkey-k1.ensures)
