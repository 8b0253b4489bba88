use Rattle.std.proofs.Common.{sym, ◌∙◌, rules}
use Rattle.refusals.proofs.Laws.{number-not0}
use borrow.Author.Tests.{le-leb, lt-leb}
use Rattle.nas_5gs.proofs.Passed.{fault-passed}
use Rattle.nas_5gs.specs.Containers.{n1_to_s1_of}
use Rattle.nas_5gs.proofs.Context.n1_to_s1_container.Goals as goal

pub returns-in-Err : goal.returns-in-Err
unfolding n1_to_s1_of
returns-in-Err c =
    simp (c.unchanged.ensures.0, c.unchanged.ensures.1, sym c.in-Err.ensures, number-not0 c.in-Err.refusal)

pub returns-then-count-ge-EXHAUSTED : goal.returns-then-count-ge-EXHAUSTED
unfolding n1_to_s1_of
returns-then-count-ge-EXHAUSTED c =
    simp (c.unchanged-then-count-ge-EXHAUSTED.ensures.0, c.unchanged-then-count-ge-EXHAUSTED.ensures.1, sym c.in_default.ensures, le-leb _ _ c.if-count-ge-EXHAUSTED.true)

pub used-requires : goal.used-requires
used-requires c =
    (search rules, search rules, (fault-passed _ (sym c.in_default.ensures)).2, λ _. search rules)

pub returns : goal.returns
unfolding n1_to_s1_of
returns c =
    simp (c.used.ensures, sym c.in_default.ensures, lt-leb _ _ c.if-count-ge-EXHAUSTED.false)
