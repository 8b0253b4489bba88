-- What the code keeps between two words of a message: two words of the key stream that follow each other, and the state behind them.
-- Assumes nothing.
use Rattle.std.specs.Prelude.{ℕ, zero, suc, ◌+◌, ◌-◌, ◌*◌, ◌/◌, ◌%◌, ◌^◌, cond, List, ◌==◌, bit_xor, slice_index}
use Rattle.streams.specs.Stream.{after}
use Rattle.zuc.specs.declared.State.{State}
use Rattle.zuc.specs.declared.Window.{Window}
use Rattle.zuc.specs.Keystream.{work, word}

-- words n and n + 1, from 0 on
unfoldable pub window_at : State → ℕ → Window
window_at x n = record { state = after work (suc (suc n)) x; first = word (after work n x); second = word (after work (suc n) x) }

-- one word on
unfoldable pub moved : Window → Window
moved v = record { state = work v.state; first = v.second; second = word v.state }

-- the two words as one number
unfoldable pub pair : Window → ℕ
pair v = v.first * 2 ^ 32 + v.second

-- the last word of the code's key stream, for a message of n octets
unfoldable pub last_word : Window → ℕ → ℕ
last_word v n = cond (n % 4 == 0) v.second (word v.state)

-- t with the first n of the eight bits o of a message, whose words begin at the first bits of y, 40 bits long
unfoldable pub some_bits : ℕ → ℕ → ℕ → ℕ → ℕ
some_bits t y o zero = t
some_bits t y o (suc n) = bit_xor (some_bits t y o n) (o / 2 ^ (7 - n) % 2 * (y / 2 ^ (8 - n) % 2 ^ 32))

-- t with the first n octets of a part of a message, all under one window
unfoldable pub hash_part : ℕ → Window → List ℕ → ℕ → ℕ
hash_part t v part zero = t
hash_part t v part (suc n) = some_bits (hash_part t v part n) (pair v / 2 ^ (24 - n * 8)) (slice_index part n) 8
