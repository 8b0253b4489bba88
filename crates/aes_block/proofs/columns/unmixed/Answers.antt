use Rattle.aes_block.proofs.Mix.{octet-1}
use Rattle.aes_block.proofs.columns.unmixed.Goals as goal

pub returns : goal.returns
returns c =
    rw (c.to_le_bytes.ensures, c.entry.ensures) (octet-1 c.args.b)
