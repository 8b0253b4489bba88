-- Document 1 (TS 35.221), 128-EEA3, which is 128-NEA3 (TS 33.501 D.2.1.4).
-- Assumes nothing.
use Rattle.std.specs.Prelude.{ℕ, ◌+◌, ◌*◌, ◌%◌, List, [], ◌∷◌, ◌++◌}
use Rattle.aes.specs.Octets.{octets}
use Rattle.streams.specs.Stream.{enciphered}
use Rattle.zuc.specs.Keystream.{work, start, word}

-- IV[0] .. IV[7]: COUNT in four octets, BEARER || DIRECTION || 00, and three zeros; IV[8] .. IV[15] are the same
abbrev pub half : ℕ → ℕ → ℕ → List ℕ
half count bearer direction = octets 4 count ++ ((bearer % 32 * 8 + direction % 2 * 4) ∷ 0 ∷ 0 ∷ 0 ∷ [])

unfoldable pub cipher_iv : ℕ → ℕ → ℕ → List ℕ
cipher_iv count bearer direction = half count bearer direction ++ half count bearer direction

-- the octets under the key stream
unfoldable pub nea3_of : List ℕ → ℕ → ℕ → ℕ → List ℕ → List ℕ
nea3_of key count bearer direction m = enciphered work word (start key (cipher_iv count bearer direction)) m
