use native.Mathlib.Nat.{add-zero}
use Rattle.aes_block.specs.Cipher.{add_round_key, mix_columns, shift_rows, sub_bytes}
use Rattle.aes_block.proofs.Lists.{four-by}
use Rattle.aes_block.proofs.cipher.middle_round.Goals as goal

pub returns : goal.returns
unfolding add_round_key mix_columns shift_rows sub_bytes
returns c =
    rw add-zero (four-by c.mixed_column.ensures c.mixed_column-2.ensures c.mixed_column-3.ensures c.mixed_column-4.ensures)
