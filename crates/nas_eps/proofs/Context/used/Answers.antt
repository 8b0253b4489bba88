use Rattle.nas_eps.specs.Places.{used}
use Rattle.nas_eps.proofs.Context.used.Goals as goal

pub returns : goal.returns
unfolding used
returns c =
    simp (c.with.ensures, c.advance.ensures)
