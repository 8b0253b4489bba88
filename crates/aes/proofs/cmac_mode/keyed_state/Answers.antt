use Rattle.aes_block.proofs.Rounds.{back}
use Rattle.aes.proofs.cmac_mode.keyed_state.Goals as goal

pub returns-then-whole : goal.returns-then-whole
returns-then-whole c =
    rw (
      c.xor_states.ensures,
      c.to_state-then-whole.ensures,
      c.to_state.ensures,
      c.if-whole.true,
      back c.args.k1 c.well_formed.0.1.0.1,
      back c.args.b c.well_formed.1.1.0.1.0.1,
    )

pub returns-else-whole : goal.returns-else-whole
returns-else-whole c =
    rw (
      c.xor_states-else-whole.ensures,
      c.to_state-else-whole-2.ensures,
      c.to_state-else-whole.ensures,
      c.if-whole.false,
      back c.args.k2 c.well_formed.1.0.1.0.1,
      back c.args.b c.well_formed.1.1.0.1.0.1,
    )
