use Rattle.std.proofs.Common.{sym, ◌∙◌, rules}
use Rattle.refusals.proofs.Laws.{number-not0}
use Rattle.nas_5gs.proofs.Passed.{verify-s1-passed}
use Rattle.nas_5gs.specs.Leaves.{use_next}
use Rattle.nas_5gs.specs.Containers.{verify_s1_to_n1_of}
use Rattle.nas_5gs.proofs.Context.verify_s1_to_n1_container.Goals as goal

pub returns-in-Err : goal.returns-in-Err
unfolding verify_s1_to_n1_of use_next
returns-in-Err c =
    simp (c.unchanged.ensures.0, c.unchanged.ensures.1, sym c.in-Err.ensures, number-not0 c.in-Err.refusal)

pub used-requires : goal.used-requires
used-requires c =
    let q = verify-s1-passed _ _ (sym c.in_default.ensures) in (search rules, q.1, q.0, λ _. search rules)

pub returns : goal.returns
unfolding verify_s1_to_n1_of use_next
returns c =
    simp (c.used.ensures, sym c.in_default.ensures)
