use Rattle.aes_block.specs.Field.{sbox, affine, inverse, squares, times, times_bits, x_times}
use Rattle.aes_block.specs.Mix.{mix_entry}
use Rattle.aes_block.proofs.Tables.{table_at}
use borrow.Author.Rules.{rules}
use Rattle.aes_block.proofs.columns.entry.Goals as goal

-- Each entry is that of its value: one computed test over the 256 entries.

pub returns : goal.returns
unfolding sbox affine inverse squares times times_bits x_times
returns c =
    table_at (λ b. mix_entry (sbox b)) 256 c.args.b (search rules)
