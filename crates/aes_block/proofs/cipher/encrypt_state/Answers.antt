use mathlib.Core.Path.{sym}
use Rattle.aes_block.proofs.Rows.{columns-four}
use Rattle.aes_block.proofs.Rounds.{square, whole}
use Rattle.aes_block.proofs.cipher.encrypt_state.Goals as goal

pub returns : goal.returns
returns c =
    let g = c.well_formed.1.0 in
    rw (c.last_round.ensures, c.rounds_to_9.ensures, c.add_round_key.ensures)
    (whole c.args.w.now c.args.s (sym (square c.args.s g.1.0.1 (columns-four c.args.s g.0 g.1.0.1 g.1.1))))
