-- What the layers above rely on.
-- Assumes nothing.
use Rattle.std.proofs.Common.{ℕ, List}
use Rattle.streams.specs.Laws.{Laws}
use Rattle.streams.proofs.Laws.{laws as laws_of}
use Rattle.snow3g.specs.Keystream.{step, start, keyword}
use Rattle.snow3g.specs.Uea2.{key_words, cipher_iv, nea1_of}
use Rattle.snow3g.specs.Uia2.{code_under, uia2_of, nia1_of}

pub laws : (key : List ℕ) (count bearer direction : ℕ) → Laws (nia1_of key count bearer direction) (nea1_of key count bearer direction)
unfolding nea1_of nia1_of uia2_of code_under
laws key count bearer direction = laws_of step keyword (start (key_words key) (cipher_iv count bearer direction)) _
