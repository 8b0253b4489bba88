use Rattle.nas_5gs.specs.Places.{used}
use Rattle.nas_5gs.proofs.Context.used.Goals as goal

pub returns : goal.returns
unfolding used
returns c =
    simp (c.with.ensures, c.advance.ensures)
