use mathlib.Core.Path.{ap, ◌∙◌}
use Rattle.nas_c.specs.Numbers.{next_count_number}
use Rattle.nas_c.proofs.Ways.{there_is, there_is_none}
use Rattle.nas_c.proofs.changes.saihdelu_next_count.Goals as goal

pub returns-in_default : goal.returns-in_default
unfolding next_count_number
returns-in_default c =
    simp (there_is_none _ _ c.way_of.ensures c.in_default.is)

pub returns : goal.returns
unfolding next_count_number
returns c =
    let way = there_is _ _ _ c.way_of.ensures c.in-Some.is in
    c.next_count.ensures ∙ simp (ap (λ w. w.0) way.1, ap (λ w. w.1) way.1, way.0)
