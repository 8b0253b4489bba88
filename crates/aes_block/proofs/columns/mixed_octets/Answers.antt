use Rattle.aes_block.specs.Field.{sbox}
use Rattle.aes_block.proofs.Mix.{under-key, column}
use Rattle.aes_block.proofs.columns.mixed_octets.Goals as goal

pub returns : goal.returns
unfolding under-key
returns c =
    rw (
      c.xor_word-3.ensures,
      c.from_row-4.ensures,
      c.xor_word-2.ensures,
      c.from_row-3.ensures,
      c.xor_word-e.ensures,
      c.from_row-2.ensures,
      c.xor_word.ensures,
      c.from_row.ensures,
    )
    (column (sbox c.args.a) (sbox c.args.b) (sbox c.args.c) (sbox c.args.d) c.args.k c.well_formed.0.1.0.1)
