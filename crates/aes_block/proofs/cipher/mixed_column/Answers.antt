use Rattle.aes_block.proofs.cipher.mixed_column.Goals as goal

pub returns : goal.returns
returns c =
    rw (c.mixed_octets.ensures, c.word_at.ensures)
