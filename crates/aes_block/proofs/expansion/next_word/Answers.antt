use Rattle.aes_block.specs.Cipher.{next_word}
use Rattle.aes_block.proofs.expansion.next_word.Goals as goal

pub returns : goal.returns
unfolding next_word
returns c =
    rw (c.xor_word.ensures, c.temp_word.ensures, c.word_at-2.ensures, c.word_at.ensures)
