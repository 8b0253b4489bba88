use mathlib.Core.Path.{◌∙◌}
use Rattle.nas_c.specs.Numbers.{initial_numbers}
use Rattle.nas_c.proofs.Answered.{use_next}
use Rattle.nas_c.proofs.Ways.{there_is, there_is_none}
use Rattle.nas_c.proofs.seals.saihdelu_initial.Goals as goal

pub returns-in_default : goal.returns-in_default
unfolding initial_numbers
returns-in_default c =
    simp (c.from.ensures, c.no_such_way.ensures, there_is_none _ _ c.connection_of.ensures c.in_default.is)

pub returns : goal.returns
unfolding initial_numbers
returns c =
    let way = there_is _ _ _ c.connection_of.ensures c.in-Some.is in
    rw c.from-2.ensures (use_next _ c.initial.ensures ∙ simp (way.1, way.0))
