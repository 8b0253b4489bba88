use Rattle.aes_block.specs.Field.{sbox}
use Rattle.aes_block.proofs.Mix.{entry-octets, row-of}
use Rattle.aes_block.proofs.columns.from_row.Goals as goal

pub returns : goal.returns
returns g c =
    let b = c.args.b in
    rw (c.to_le_bytes-e.ensures, c.entry.ensures, entry-octets b) (row-of g.row.R (sbox b) c.requires)
