-- Lengths: a block of the cipher.
-- Assumes nothing.
use mathlib.Core.Path.{◌≡◌, refl}
use mathlib.Core.List.{List}
use Prim.Native.Nat.{ℕ}
use lib.ListN.{length}
use Rattle.aes_block.specs.Cipher.{cipher, from_state}

pub cipher-length : (w b : List ℕ) → length (cipher w b) ≡ 16
unfolding cipher from_state
cipher-length w b = refl
