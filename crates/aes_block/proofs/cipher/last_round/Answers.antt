use Rattle.aes_block.specs.Cipher.{add_round_key, shift_rows, sub_bytes}
use Rattle.aes_block.proofs.Lists.{four-by}
use Rattle.aes_block.proofs.cipher.last_round.Goals as goal

pub returns : goal.returns
unfolding add_round_key shift_rows sub_bytes
returns c =
    four-by c.last_column.ensures c.last_column-2.ensures c.last_column-3.ensures c.last_column-4.ensures
