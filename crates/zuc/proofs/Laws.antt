-- What the layers above rely on.
-- Assumes nothing.
use Rattle.std.proofs.Common.{ℕ, List}
use Rattle.streams.specs.Laws.{Laws}
use Rattle.streams.proofs.Laws.{laws as laws_of}
use Rattle.zuc.specs.Keystream.{work, start, word}
use Rattle.zuc.specs.Ciphering.{cipher_iv, nea3_of}
use Rattle.zuc.specs.Integrity.{nia3_bits, nia3_of}

pub laws : (key : List ℕ) (count bearer direction : ℕ) → Laws (nia3_of key count bearer direction) (nea3_of key count bearer direction)
unfolding nea3_of nia3_of nia3_bits
laws key count bearer direction = laws_of work word (start key (cipher_iv count bearer direction)) _
