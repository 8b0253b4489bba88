use Rattle.std.proofs.Common.{div-one}
use Rattle.zuc.specs.Ciphering.{cipher_iv}
use Rattle.zuc.proofs.ciphering.cipher_iv.Goals as goal

pub returns : goal.returns
unfolding cipher_iv
returns c =
    rw (c.to_be_bytes.ensures, div-one)
