-- Document 1 (TS 35.215) 3, UEA2; TS 33.401 B.1.2 and TS 33.501 D.2.1.2 call it 128-EEA1 and 128-NEA1.
-- Assumes nothing.
use Rattle.std.specs.Prelude.{ℕ, ◌+◌, ◌*◌, ◌%◌, ◌^◌, List, [], ◌∷◌, take, drop}
use Rattle.aes.specs.Octets.{number}
use Rattle.streams.specs.Stream.{enciphered}
use Rattle.snow3g.specs.Keystream.{step, start, keyword}

-- 3.4: k0 is the last four octets of the key, k3 the first
unfoldable pub key_words : List ℕ → List ℕ
key_words key = number (take 4 (drop 12 key)) ∷ number (take 4 (drop 8 key)) ∷ number (take 4 (drop 4 key)) ∷ number (take 4 key) ∷ []

-- 3.4: IV0 .. IV3; BEARER is 5 bits, DIRECTION 1 bit, and 26 zero bits follow them
unfoldable pub cipher_iv : ℕ → ℕ → ℕ → List ℕ
cipher_iv count bearer direction =
    let b = bearer % 32 * 2 ^ 27 + direction % 2 * 2 ^ 26 in
    b ∷ count ∷ b ∷ count ∷ []

-- 3.5 and 3.6: the octets under the keystream
unfoldable pub nea1_of : List ℕ → ℕ → ℕ → ℕ → List ℕ → List ℕ
nea1_of key count bearer direction l = enciphered step keyword (start (key_words key) (cipher_iv count bearer direction)) l
