use Rattle.aes_block.proofs.cipher.last_column.Goals as goal

pub returns : goal.returns
returns c =
    rw (c.unmixed_octets.ensures, c.word_at.ensures)
