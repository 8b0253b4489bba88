use Rattle.std.proofs.Common.{sym, ◌∙◌}
use Rattle.nas_eps.specs.Changes.{restore_of}
use Rattle.nas_eps.proofs.Context.restore.Goals as goal

pub returns-then-is_unbuilt : goal.returns-then-is_unbuilt
unfolding restore_of
returns-then-is_unbuilt c =
    simp (c.refused_with.ensures.0, c.refused_with.ensures.1, sym c.is_unbuilt.ensures ∙ c.if-is_unbuilt.true)

pub returns-then-any_over : goal.returns-then-any_over
unfolding restore_of
returns-then-any_over c =
    simp (c.refused_with-then-any_over.ensures.0, c.refused_with-then-any_over.ensures.1, sym c.is_unbuilt.ensures ∙ c.if-is_unbuilt.false, sym c.any_over.ensures ∙ c.if-any_over.true)

pub returns : goal.returns
unfolding restore_of
returns c =
    simp (c.context_with.ensures, sym c.is_unbuilt.ensures ∙ c.if-is_unbuilt.false, sym c.any_over.ensures ∙ c.if-any_over.false)
