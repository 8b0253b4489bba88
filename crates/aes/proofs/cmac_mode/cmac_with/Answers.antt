use Rattle.std.proofs.Common.{refl, arith}
use Rattle.aes.specs.Cipher.{from_state}
use Rattle.aes.specs.Cmac.{chain}
use Rattle.aes.proofs.cmac_mode.cmac_with.Goals as goal

pub cmac_from-requires : goal.cmac_from-requires
unfolding from_state chain
cmac_from-requires c =
    (omega arith, refl)
