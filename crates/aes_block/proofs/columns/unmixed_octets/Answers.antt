use Rattle.aes_block.proofs.columns.unmixed_octets.Goals as goal

pub returns : goal.returns
returns c =
    rw (c.xor_word.ensures, c.unmixed-4.ensures, c.unmixed-3.ensures, c.unmixed-2.ensures, c.unmixed.ensures)
