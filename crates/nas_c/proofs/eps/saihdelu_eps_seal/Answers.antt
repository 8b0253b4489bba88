use mathlib.Core.Path.{◌∙◌}
use Rattle.nas_c.specs.EpsNumbers.{seal_numbers}
use Rattle.nas_c.proofs.Answered.{eps_use}
use Rattle.nas_c.proofs.Ways.{there_is, there_is_none}
use Rattle.nas_c.proofs.eps.saihdelu_eps_seal.Goals as goal

pub returns-in_default : goal.returns-in_default
unfolding seal_numbers
returns-in_default c =
    simp (c.from.ensures, c.no_such_way.ensures, there_is_none _ _ c.direction_of.ensures c.in_default.is)

pub returns : goal.returns
unfolding seal_numbers
returns c =
    let way = there_is _ _ _ c.direction_of.ensures c.in-Some.is in
    rw c.from-2.ensures (eps_use _ c.seal.ensures ∙ simp (way.1, way.0))
