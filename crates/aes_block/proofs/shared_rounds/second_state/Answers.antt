use Rattle.aes_block.specs.Mix.{two_rounds}
use Rattle.aes_block.proofs.shared_rounds.second_state.Goals as goal

pub returns : goal.returns
unfolding two_rounds
returns c =
    rw (
      c.xor_word-4.ensures,
      c.from_row-5.ensures,
      c.xor_word-3.ensures,
      c.from_row-4.ensures,
      c.xor_word-2.ensures,
      c.from_row-3.ensures,
      c.xor_word.ensures,
      c.from_row-2.ensures,
      c.xor_word-x.ensures,
      c.from_row.ensures,
    )
