use Rattle.std.proofs.Common.{sym, ◌∙◌}
use Rattle.refusals.proofs.Laws.{number-not0}
use Rattle.nas_eps.proofs.Passed.{fault-passed}
use Rattle.nas_eps.specs.Changes.{reselect_of}
use Rattle.nas_eps.proofs.Context.reselect.Goals as goal

pub returns-in-Err : goal.returns-in-Err
unfolding reselect_of
returns-in-Err c =
    simp (c.unchanged.ensures.0, c.unchanged.ensures.1, sym c.in-Err.ensures, number-not0 c.in-Err.refusal)

pub returns-then-is_unbuilt : goal.returns-then-is_unbuilt
unfolding reselect_of
returns-then-is_unbuilt c =
    simp (c.unchanged-then-is_unbuilt.ensures.0, c.unchanged-then-is_unbuilt.ensures.1, sym c.in_default.ensures, sym c.is_unbuilt.ensures ∙ c.if-is_unbuilt.true)

pub kept_for-context-requires : goal.kept_for-context-requires
kept_for-context-requires c =
    fault-passed _ (sym c.in_default.ensures)

pub returns : goal.returns
unfolding reselect_of
returns c =
    simp (c.kept_for-context.ensures, c.of-2.ensures, c.of.ensures, sym c.in_default.ensures, sym c.is_unbuilt.ensures ∙ c.if-is_unbuilt.false)
