-- Each example is computed from the definitions.
-- Assumes nothing.
use mathlib.Core.Path.{refl}
use mathlib.Core.List.{zip_with}
use Rattle.aes.specs.Field.{x_times, times, times_bits, squares, inverse, affine, sbox}
use Rattle.aes.specs.Cipher.{
  to_state,
  from_state,
  sub_bytes,
  shift_rows,
  mix_columns,
  word,
  add_round_key,
  rounds,
  cipher,
  rcon,
  turned,
  next_word,
  words,
  expand_key,
}
use Rattle.aes.specs.Counter.{counter, keystream, ctr_of}
use Rattle.aes.specs.Cmac.{shift_left, double, subkey1, subkey2, block, last_block, chain, cmac_at, cmac_by, cmac_of}
use Rattle.aes.specs.Nas.{head, nea2_of, nia2_of}
use Rattle.aes_examples.specs.Examples.{Fips197, Sp800-38A, Sp800-38B-Subkeys, Sp800-38B-Codes, Ts33401}

pub fips197 : Fips197
unfolding expand_key words next_word turned rcon word x_times sbox affine inverse squares times times_bits zip_with cipher rounds add_round_key mix_columns shift_rows sub_bytes to_state from_state
fips197 = record { A1 = refl; B = refl }

pub sp800-38A : Sp800-38A
unfolding expand_key words next_word turned rcon word x_times sbox affine inverse squares times times_bits zip_with cipher rounds add_round_key mix_columns shift_rows sub_bytes to_state from_state ctr_of keystream counter
sp800-38A = record { F51 = refl }

pub sp800-38B-subkeys : Sp800-38B-Subkeys
unfolding expand_key words next_word turned rcon word x_times sbox affine inverse squares times times_bits zip_with cipher rounds add_round_key mix_columns shift_rows sub_bytes to_state from_state subkey1 subkey2 double shift_left
sp800-38B-subkeys = record { K1 = refl; K2 = refl }

pub sp800-38B-codes : Sp800-38B-Codes
unfolding expand_key words next_word turned rcon word x_times sbox affine inverse squares times times_bits zip_with cipher rounds add_round_key mix_columns shift_rows sub_bytes to_state from_state subkey1 subkey2 double shift_left cmac_of cmac_by cmac_at last_block block chain
sp800-38B-codes = record { of_none = refl; of-16 = refl }

pub ts33401 : Ts33401
unfolding expand_key words next_word turned rcon word x_times sbox affine inverse squares times times_bits zip_with cipher rounds add_round_key mix_columns shift_rows sub_bytes to_state from_state subkey1 subkey2 double shift_left cmac_of cmac_by cmac_at last_block block chain ctr_of keystream counter head nea2_of nia2_of
ts33401 = record { C2-set2 = refl; C1-set1 = refl }
