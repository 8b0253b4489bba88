use Rattle.std.proofs.Common.{sym, ◌∙◌}
use Rattle.count.specs.Rule.{opening}
use Rattle.nas_core.specs.Verify.{verify_of}
use Rattle.nas_core.proofs.Core.verify.Goals as goal

pub returns-in-None : goal.returns-in-None
unfolding verify_of opening
returns-in-None c =
    record { opening = simp (c.verify_forward.ensures.opening, sym c.late.ensures ∙ c.in-None.is); read = c.verify_forward.ensures.read }

pub returns-then-take : goal.returns-then-take
unfolding verify_of opening
returns-then-take c =
    record { opening = simp (sym c.late.ensures ∙ c.in-Some.is, sym c.take.ensures.fits ∙ c.if-take.true); read = rw c.if-take.true at c.take.ensures.read }

pub returns-else-take : goal.returns-else-take
unfolding verify_of opening
returns-else-take c =
    record { opening = simp (c.verify_forward-else-take.ensures.opening, sym c.late.ensures ∙ c.in-Some.is, sym c.take.ensures.fits ∙ c.if-take.false); read = rw (rw c.if-take.false at c.take.ensures.read) at c.verify_forward-else-take.ensures.read }
