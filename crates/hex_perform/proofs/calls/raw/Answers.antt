use Rattle.hex_perform.specs.Perform.{raw_context}
use Rattle.hex_perform.proofs.calls.raw.Goals as goal

pub returns : goal.returns
unfolding raw_context
returns c =
    simp (c.of.ensures, c.of-2.ensures)
