use Rattle.std.proofs.Common.{sym, ◌∙◌, rules}
use Rattle.refusals.proofs.Laws.{number-not0}
use Rattle.count.specs.Rule.{forward_only}
use Rattle.count.proofs.Candidates.{forward-at}
use Rattle.count.proofs.Skipped.{forward-next}
use Rattle.nas_5gs.proofs.Passed.{fault-passed, ahead-near}
use Rattle.nas_5gs.specs.Containers.{verify_n1_to_s1_of}
use Rattle.nas_5gs.proofs.Context.verify_n1_to_s1_container.Goals as goal

pub returns-in-Err : goal.returns-in-Err
unfolding verify_n1_to_s1_of
returns-in-Err c =
    simp (c.unchanged.ensures.0, c.unchanged.ensures.1, sym c.in-Err.ensures, number-not0 c.in-Err.refusal)

pub distance_to-requires : goal.distance_to-requires
distance_to-requires c =
    ahead-near _ _ (forward-next _ _ _ _ _ (sym c.forward.ensures ∙ c.in-Some.is))

pub used-requires : goal.used-requires
used-requires c =
    let f = forward-at _ _ _ _ c.ranges.octet.fits (sym c.forward.ensures ∙ c.in-Some.is) in (search rules, f.0, (fault-passed _ (sym c.in_default.ensures)).2, f.1)

pub returns-in-None : goal.returns-in-None
unfolding verify_n1_to_s1_of forward_only
returns-in-None c =
    simp (c.unchanged-in-None.ensures.0, c.unchanged-in-None.ensures.1, sym c.in_default.ensures, sym c.forward.ensures ∙ c.in-None.is)

pub returns-in-Some : goal.returns-in-Some
unfolding verify_n1_to_s1_of forward_only
returns-in-Some c =
    simp (c.used.ensures, c.distance_to.ensures, sym c.in_default.ensures, sym c.forward.ensures ∙ c.in-Some.is)
