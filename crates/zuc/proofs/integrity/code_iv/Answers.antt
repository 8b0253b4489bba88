use Rattle.std.proofs.Common.{div-one}
use Rattle.zuc.specs.Integrity.{code_iv}
use Rattle.zuc.proofs.integrity.code_iv.Goals as goal

pub returns : goal.returns
unfolding code_iv
returns c =
    rw (c.to_be_bytes.ensures, div-one)
