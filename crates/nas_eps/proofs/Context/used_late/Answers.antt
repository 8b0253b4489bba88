use Rattle.nas_eps.specs.Places.{used_late}
use Rattle.nas_eps.proofs.Context.used_late.Goals as goal

pub returns : goal.returns
unfolding used_late
returns c =
    simp (c.with.ensures, c.use_late.ensures)
