-- Products by 2, one computed test over all octets; and the S-box gives octets.
-- Assumes nothing.
use mathlib.Core.Path.{◌≡◌, refl}
use Prim.Native.Nat.{ℕ, ◌+◌, ◌%◌, ◌<◌}
use native.Mathlib.Omega.{arith}
use native.Mathlib.Nat.{mod-lt}
use lib.Dec.{lit<}
use Rattle.aes_block.specs.Field.{x_times, times, times_bits, inverse, bit, of_bits, affine, sbox}
use Rattle.aes_block.proofs.Tables.{same-table}

pub times-2 : (b : ℕ) → b < 256 → times 2 b ≡ x_times b
unfolding times times_bits x_times
times-2 b h = same-table (times 2) x_times 256 b refl h

of-bits : (f : ℕ → ℕ) → ((i : ℕ) → f i < 2) → of_bits f < 256
of-bits f h = omega (arith, h 0, h 1, h 2, h 3, h 4, h 5, h 6, h 7)

pub sbox-octet : (b : ℕ) → sbox b < 256
unfolding sbox affine
sbox-octet b =
    let a = inverse b in
    of-bits (λ i. (bit a i + bit a ((i + 4) % 8) + bit a ((i + 5) % 8) + bit a ((i + 6) % 8) + bit a ((i + 7) % 8) + bit 99 i) % 2) (λ i. mod-lt _ (lit< tt))
