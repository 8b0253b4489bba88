use mathlib.Core.Path.{sym, ◌∙◌}
use Rattle.handover.proofs.Missed.{under-null, this-one, not-this}
use Rattle.handover.proofs.open_across.Goals as goal

pub returns-then-wraps : goal.returns-then-wraps
returns-then-wraps c =
    rw (c.on.ensures.0, c.on.ensures.1, c.on.ensures.2)
    (under-null _ _ _ _ _ _ _ _ _ _ c.open-here.ensures (sym c.wraps.ensures ∙ c.if-wraps.true))

pub returns-in-None : goal.returns-in-None
returns-in-None c =
    rw (c.on-in-None.ensures.0, c.on-in-None.ensures.1, c.on-in-None.ensures.2)
    (this-one _ _ _ _ _ _ _ _ _ _ c.open-here.ensures (sym c.wraps.ensures ∙ c.if-wraps.false) c.in-None.ensures.none)

pub returns-in-Some : goal.returns-in-Some
returns-in-Some c =
    let missed = c.in-Some.ensures.some in
    not-this _ _ _ _ _ _ _ _ _ _ c.open-here.ensures (sym c.wraps.ensures ∙ c.if-wraps.false) _ missed.0 missed.1 _ c.elsewhere.ensures
