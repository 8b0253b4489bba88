-- What the private contracts speak of: the table that the code ciphers by, FIPS 197 (2023) 5.1.1 and 5.1.3 in one, and what blocks share of the
-- first two rounds. No part of the standard.
-- Assumes nothing.
use Rattle.std.specs.Prelude.{◌≡◌, List, [], ◌∷◌, ◌++◌, ℕ, zero, suc, ◌+◌, ◌-◌, ◌%◌, take, get_or}
use Rattle.std.specs.Int.Bits.{bit_xor}
use Rattle.aes_block.specs.Octets.{four, xor, number}
use Rattle.aes_block.specs.Field.{times, sbox}
use Rattle.aes_block.specs.Cipher.{to_state, sub_bytes, shift_rows, mix_columns, add_round_key, rounds}

-- a value s of the S-box with its products, twice: any four octets in a row are what s gives to a mixed column, by its row
abbrev pub mix_entry : ℕ → ℕ
mix_entry s = number (times 3 s ∷ s ∷ s ∷ times 2 s ∷ times 3 s ∷ s ∷ s ∷ times 2 s ∷ [])

-- what a value s of the S-box in row r gives to the mixed column
abbrev pub row : ℕ → ℕ → List ℕ
row r s = four (λ i. get_or (times 2 s ∷ s ∷ s ∷ times 3 s ∷ []) ((i + 4 - r) % 4) 0)

-- the state after two rounds, of five columns g and v, the last octet of a block under its key: g without v's part of column 0, which is all that
-- v changes in round 1, and without that column's part of each column of round 2
unfoldable pub two_rounds : List (List ℕ) → ℕ → List (List ℕ)
two_rounds g v =
    four (λ c. xor (get_or g (c + 1) []) (row ((4 - c) % 4) (sbox (get_or (xor (get_or g 0 []) (row 3 (sbox v))) ((4 - c) % 4) 0))))

-- g is what all blocks share that differ from b in the last octet alone
abbrev pub Shared : List ℕ → List ℕ → List (List ℕ) → Type 0
Shared w b g =
    (o : ℕ) → two_rounds g (bit_xor o (get_or w 15 0)) ≡ rounds w 2 (add_round_key w 0 (to_state (take 15 b ++ (o ∷ []))))

-- the n rounds after the first two, and the state that a block ends in, of what two rounds have made of it
unfoldable pub onward : List ℕ → ℕ → List (List ℕ) → List (List ℕ)
onward w zero s = s
onward w (suc n) s = add_round_key w (3 + n) (mix_columns (shift_rows (sub_bytes (onward w n s))))

unfoldable pub ended : List ℕ → List (List ℕ) → List (List ℕ)
ended w s = add_round_key w 10 (shift_rows (sub_bytes (onward w 7 s)))
