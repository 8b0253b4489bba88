use mathlib.Core.Path.{ap, ◌∙◌}
use Rattle.handover.specs.Across.{both_of}
use Rattle.handover.proofs.Missed.{neither, other-one}
use Rattle.handover.proofs.elsewhere.Goals as goal

pub returns-in-None : goal.returns-in-None
returns-in-None c =
    rw (c.on.ensures.0, c.on.ensures.1, c.on.ensures.2)
    (other-one _ _ _ _ _ _ _ _ _ _ _ _ c.other-k.ensures c.open-there.ensures c.in-None.ensures.none)

pub returns-in-Some : goal.returns-in-Some
returns-in-Some c =
    let missed = c.in-Some.ensures.some in
    neither _ _ _ _ _ _ _ _ _ _ _ _ c.other-k.ensures c.open-there.ensures _ (c.both_of.ensures ∙ ap (both_of _) missed.0) missed.1
