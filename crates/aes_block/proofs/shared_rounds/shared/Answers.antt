use Rattle.aes_block.proofs.Sharing.{sharing}
use Rattle.aes_block.proofs.shared_rounds.shared.Goals as goal

pub returns : goal.returns
returns c =
    rw (
      c.xor_word-5.ensures,
      c.from_row-5.ensures,
      c.xor_word-4.ensures,
      c.from_row-4.ensures,
      c.xor_word-3.ensures,
      c.from_row-3.ensures,
      c.xor_word-2.ensures,
      c.from_row-2.ensures,
      c.xor_word.ensures,
      c.from_row.ensures,
    )
    (sharing c.args.w.now c.args.b c.add_round_key-s.result c.middle_round-a.result c.middle_round-c.result c.well_formed.1.0.1.0.1
    (rw (c.add_round_key-s.ensures, c.to_state.ensures)) c.middle_round-a.ensures c.middle_round-c.ensures)
