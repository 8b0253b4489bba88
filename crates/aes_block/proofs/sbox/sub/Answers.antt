use Rattle.aes_block.specs.Field.{sbox, affine, inverse, squares, times, times_bits, x_times}
use Rattle.aes_block.proofs.Tables.{table_at}
use borrow.Author.Rules.{rules}
use Rattle.aes_block.proofs.sbox.sub.Goals as goal

-- The table is the S-box at every octet: one computed test over the 256 entries.

pub returns : goal.returns
unfolding sbox affine inverse squares times times_bits x_times
returns c =
    table_at sbox 256 c.args.b (search rules)
