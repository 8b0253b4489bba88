use Rattle.std.proofs.Common.{refl, sym, ◌∙◌}
use Rattle.nas_core.proofs.Core.verify_forward.Goals as goal

pub returns-then-take : goal.returns-then-take
returns-then-take c =
    record { opening = simp (sym c.forward.ensures ∙ c.in-Some.is, sym c.take.ensures.fits ∙ c.if-take.true); read = rw c.if-take.true at c.take.ensures.read }

pub returns : goal.returns
returns c =
    record { opening = simp (sym c.forward.ensures ∙ c.in-Some.is, sym c.take.ensures.fits ∙ c.if-take.false); read = rw c.if-take.false at c.take.ensures.read }
