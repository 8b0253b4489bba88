use Rattle.std.proofs.Common.{sym, ◌∙◌}
use Rattle.nas_eps.specs.Changes.{new_of}
use Rattle.nas_eps.proofs.Context.new.Goals as goal

pub returns-then-is_unbuilt : goal.returns-then-is_unbuilt
unfolding new_of
returns-then-is_unbuilt c =
    simp (c.refused_with.ensures.0, c.refused_with.ensures.1, sym c.is_unbuilt.ensures ∙ c.if-is_unbuilt.true)

pub returns : goal.returns
unfolding new_of
returns c =
    simp (c.context_with.ensures, sym c.is_unbuilt.ensures ∙ c.if-is_unbuilt.false)
