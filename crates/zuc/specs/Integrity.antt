-- Document 1 (TS 35.221), 128-EIA3, which is 128-NIA3 (TS 33.501 D.3.1.4). Bits are counted from the left, from 0.
-- Assumes nothing.
use Rattle.std.specs.Prelude.{ℕ, zero, suc, ◌+◌, ◌-◌, ◌*◌, ◌/◌, ◌%◌, ◌^◌, List, [], ◌∷◌, ◌++◌, length, bit_xor, slice_index}
use Rattle.aes.specs.Octets.{octets}
use Rattle.streams.specs.Stream.{words}
use Rattle.zuc.specs.Keystream.{work, start, word}

-- IV[0] .. IV[7]: COUNT, BEARER || 000, and three zeros; IV[8] .. IV[15] are the same with DIRECTION ⊕-ed to the first bit of IV[8] and of IV[14]
unfoldable pub code_iv : ℕ → ℕ → ℕ → List ℕ
code_iv count bearer direction =
    octets 4 count ++ (bearer % 32 * 8 ∷ 0 ∷ 0 ∷ 0 ∷ []) ++
    (bit_xor (count / 256 ^ 3 % 256) (direction % 2 * 128) ∷ octets 3 count) ++
    (bearer % 32 * 8 ∷ 0 ∷ direction % 2 * 128 ∷ 0 ∷ [])

-- bit i of a string of words of n bits
unfoldable pub bit_at : ℕ → List ℕ → ℕ → ℕ
bit_at n l i = slice_index l (i / n) / 2 ^ (n - (i % n + 1)) % 2

-- the number that n bits write
unfoldable pub number_of : (ℕ → ℕ) → ℕ → ℕ
number_of f zero = 0
number_of f (suc n) = number_of f n * 2 + f n

-- z[i]: the word of bits i .. i + 31 of the key stream
unfoldable pub word_at : List ℕ → ℕ → ℕ
word_at zs i = number_of (λ k. bit_at 32 zs (i + k)) 32

-- T after i bits of the message: the ⊕ of z[i] at each bit that is 1
unfoldable pub hash : List ℕ → List ℕ → ℕ → ℕ
hash zs m zero = 0
hash zs m (suc i) = bit_xor (hash zs m i) (bit_at 8 m i * word_at zs i)

-- L, for a message of n bits
abbrev pub word_count : ℕ → ℕ
word_count n = (n + 31) / 32 + 2

-- T ⊕ z[LENGTH] ⊕ z[32 (L - 1)], for the first n bits of m
unfoldable pub code_of : List ℕ → ℕ → List ℕ → ℕ
code_of zs n m = bit_xor (bit_xor (hash zs m n) (word_at zs n)) (word_at zs (32 * (word_count n - 1)))

unfoldable pub nia3_bits : List ℕ → ℕ → ℕ → ℕ → ℕ → List ℕ → List ℕ
nia3_bits key count bearer direction n m = octets 4 (code_of (words work word (word_count n) (start key (code_iv count bearer direction))) n m)

-- of whole octets
unfoldable pub nia3_of : List ℕ → ℕ → ℕ → ℕ → List ℕ → List ℕ
nia3_of key count bearer direction m = nia3_bits key count bearer direction (length m * 8) m
