use native.Mathlib.Nat.{add-zero}
use Rattle.aes_block.specs.Cipher.{add_round_key}
use Rattle.aes_block.proofs.Lists.{four-by}
use Rattle.aes_block.proofs.cipher.add_round_key.Goals as goal

pub returns : goal.returns
unfolding add_round_key
returns c =
    rw add-zero
    (four-by c.keyed_column.ensures c.keyed_column-2.ensures c.keyed_column-3.ensures c.keyed_column-4.ensures)
