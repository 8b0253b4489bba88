use mathlib.Core.Path.{ap, ◌∙◌}
use Rattle.nas_c.specs.Numbers.{open_numbers}
use Rattle.nas_c.proofs.Answered.{open_two}
use Rattle.nas_c.proofs.Ways.{there_is, there_is_none}
use Rattle.nas_c.proofs.opens.saihdelu_open.Goals as goal

pub returns-in_default : goal.returns-in_default
unfolding open_numbers
returns-in_default c =
    simp (c.from.ensures, c.no_such_way.ensures, there_is_none _ _ c.way_of.ensures c.in_default.is)

pub returns : goal.returns
unfolding open_numbers
returns c =
    let way = there_is _ _ _ c.way_of.ensures c.in-Some.is in
    rw c.from-2.ensures (open_two _ c.open.ensures ∙ simp (ap (λ w. w.0) way.1, ap (λ w. w.1) way.1, way.0))
