use mathlib.Core.Path.{◌∙◌}
use Rattle.nas_c.specs.EpsNumbers.{next_count_number}
use Rattle.nas_c.proofs.Ways.{there_is, there_is_none}
use Rattle.nas_c.proofs.eps.saihdelu_eps_next_count.Goals as goal

pub returns-in_default : goal.returns-in_default
unfolding next_count_number
returns-in_default c =
    simp (there_is_none _ _ c.direction_of.ensures c.in_default.is)

pub returns : goal.returns
unfolding next_count_number
returns c =
    let way = there_is _ _ _ c.direction_of.ensures c.in-Some.is in
    c.next_count.ensures ∙ simp (way.1, way.0)
