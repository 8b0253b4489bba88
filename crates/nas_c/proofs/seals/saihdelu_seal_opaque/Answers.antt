use mathlib.Core.Path.{ap, ◌∙◌}
use Rattle.nas_c.specs.Numbers.{opaque_numbers}
use Rattle.nas_c.proofs.Answered.{use_next}
use Rattle.nas_c.proofs.Ways.{there_is, there_is_none}
use Rattle.nas_c.proofs.seals.saihdelu_seal_opaque.Goals as goal

pub returns-in_default : goal.returns-in_default
unfolding opaque_numbers
returns-in_default c =
    simp (c.from.ensures, c.no_such_way.ensures, there_is_none _ _ c.way_of.ensures c.in_default.is)

pub returns : goal.returns
unfolding opaque_numbers
returns c =
    let way = there_is _ _ _ c.way_of.ensures c.in-Some.is in
    rw c.from-2.ensures (use_next _ c.seal_opaque.ensures ∙ simp (ap (λ w. w.0) way.1, ap (λ w. w.1) way.1, way.0))
