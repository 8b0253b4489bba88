use Rattle.nas_eps.specs.Changes.{resized}
use Rattle.nas_eps.proofs.Context.resized.Goals as goal

pub returns : goal.returns
unfolding resized
returns c =
    simp (c.with_size-context.ensures)
