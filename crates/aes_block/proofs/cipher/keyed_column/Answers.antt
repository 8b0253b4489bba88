use Rattle.aes_block.proofs.cipher.keyed_column.Goals as goal

pub returns : goal.returns
returns c =
    rw (c.xor_word.ensures, c.word_at.ensures)
