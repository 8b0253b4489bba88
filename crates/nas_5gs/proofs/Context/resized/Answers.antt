use Rattle.nas_5gs.specs.Changes.{resized}
use Rattle.nas_5gs.proofs.Context.resized.Goals as goal

pub returns : goal.returns
unfolding resized
returns c =
    simp (c.with_size-context.ensures)
