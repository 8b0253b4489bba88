use Rattle.std.proofs.Common.{div-one}
use Rattle.aes.specs.Nas.{head}
use Rattle.aes.proofs.nas.head.Goals as goal

pub returns : goal.returns
unfolding head
returns c =
    rw (c.to_be_bytes-c.ensures, div-one)
