use native.Mathlib.Nat.{add-zero}
use Rattle.aes_block.specs.Cipher.{word}
use Rattle.aes_block.proofs.words.word_at.Goals as goal

pub returns : goal.returns
unfolding word
returns c =
    rw add-zero
