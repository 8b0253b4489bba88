-- FIPS 197 (2023) section 5 with a key of 16 octets: the cipher and the key expansion. A block is 16 octets; a state is four columns of
-- four octets; the expanded key is its 44 words in a row, 176 octets.
-- Assumes nothing.
use Rattle.std.specs.Prelude.{cond, List, [], ◌∷◌, ◌++◌, ℕ, zero, suc, ◌+◌, ◌*◌, ◌/◌, ◌%◌, eqb, get_or}
use Rattle.std.specs.Int.Bits.{bit_xor}
use Rattle.aes_block.specs.Octets.{four, sixteen, xor}
use Rattle.aes_block.specs.Field.{x_times, times, sbox}

-- 3.4: the octet in row r of column c, and a state from its octets
abbrev pub cell : List (List ℕ) → ℕ → ℕ → ℕ
cell s c r = get_or (get_or s c []) r 0

abbrev pub state : (ℕ → ℕ → ℕ) → List (List ℕ)
state f = four (λ c. four (λ r. f c r))

-- 3.4: the state of a block, and the block of a state
unfoldable pub to_state : List ℕ → List (List ℕ)
to_state b = state (λ c r. get_or b (r + 4 * c) 0)

unfoldable pub from_state : List (List ℕ) → List ℕ
from_state s = sixteen (λ i. cell s (i / 4) (i % 4))

-- 5.1.1
unfoldable pub sub_bytes : List (List ℕ) → List (List ℕ)
sub_bytes s = state (λ c r. sbox (cell s c r))

-- 5.1.2: row r moves by r columns
unfoldable pub shift_rows : List (List ℕ) → List (List ℕ)
shift_rows s = state (λ c r. cell s ((c + r) % 4) r)

-- 5.1.3: octet r of a column t, mixed
abbrev pub mixed : List ℕ → ℕ → ℕ
mixed t r =
    bit_xor
    (bit_xor (bit_xor (times 2 (get_or t r 0)) (times 3 (get_or t ((r + 1) % 4) 0))) (get_or t ((r + 2) % 4) 0))
    (get_or t ((r + 3) % 4) 0)

unfoldable pub mix_columns : List (List ℕ) → List (List ℕ)
mix_columns s = state (λ c r. mixed (get_or s c []) r)

-- word i of the expanded key w
unfoldable pub word : List ℕ → ℕ → List ℕ
word w i = four (λ r. get_or w (i * 4 + r) 0)

-- 5.1.4: column c takes word 4 n + c in round n
unfoldable pub add_round_key : List ℕ → ℕ → List (List ℕ) → List (List ℕ)
add_round_key w n s = four (λ c. xor (get_or s c []) (word w (n * 4 + c)))

-- 5.1: the first n rounds after the first AddRoundKey, and the cipher
unfoldable pub rounds : List ℕ → ℕ → List (List ℕ) → List (List ℕ)
rounds w zero s = s
rounds w (suc n) s = add_round_key w (suc n) (mix_columns (shift_rows (sub_bytes (rounds w n s))))

unfoldable pub cipher : List ℕ → List ℕ → List ℕ
cipher w b = from_state (add_round_key w 10 (shift_rows (sub_bytes (rounds w 9 (add_round_key w 0 (to_state b))))))

-- 5.2: Rcon[i + 1] is the word of x^i and three zeros
unfoldable pub rcon : ℕ → ℕ
rcon zero = 1
rcon (suc i) = x_times (rcon i)

-- 5.2: SubWord(RotWord(t)) ⊕ Rcon[i + 1]
unfoldable pub turned : ℕ → List ℕ → List ℕ
turned i t = xor (four (λ r. sbox (get_or t ((r + 1) % 4) 0))) (rcon i ∷ 0 ∷ 0 ∷ 0 ∷ [])

-- 5.2: word n + 4, from the words before it: word n ⊕ word n + 3, turned at every fourth
unfoldable pub next_word : List ℕ → ℕ → List ℕ
next_word w n = xor (word w n) (cond (eqb (n % 4) 0) (turned (n / 4) (word w (n + 3))) (word w (n + 3)))

-- the first n + 4 words, and all 44
unfoldable pub words : List ℕ → ℕ → List ℕ
words key zero = key
words key (suc n) = words key n ++ next_word (words key n) n

unfoldable pub expand_key : List ℕ → List ℕ
expand_key key = words key 40
