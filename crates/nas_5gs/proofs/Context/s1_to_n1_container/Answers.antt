use Rattle.std.proofs.Common.{sym, ◌∙◌, rules}
use Rattle.refusals.proofs.Laws.{number-not0}
use Rattle.nas_5gs.proofs.Passed.{s1-passed}
use Rattle.envelope.proofs.Lengths.{s1-length}
use Rattle.nas_5gs.specs.Leaves.{use_next}
use Rattle.nas_5gs.specs.Containers.{s1_to_n1_of}
use Rattle.nas_5gs.proofs.Context.s1_to_n1_container.Goals as goal

pub returns-in-Err : goal.returns-in-Err
unfolding s1_to_n1_of use_next
returns-in-Err c =
    simp (c.unchanged.ensures.0, c.unchanged.ensures.1, sym c.in-Err.ensures, number-not0 c.in-Err.refusal)

pub put_s1_to_n1-requires : goal.put_s1_to_n1-requires
put_s1_to_n1-requires c =
    let q = s1-passed _ _ _ _ (sym c.in_default.ensures) in (q.ncc, q.ngksi, q.integrity, q.ciphering, q.room)

pub used-requires : goal.used-requires
used-requires c =
    let q = s1-passed _ _ _ _ (sym c.in_default.ensures) in (search rules, q.next, q.size, λ _. search rules)

pub returns : goal.returns
unfolding s1_to_n1_of use_next
returns c =
    simp (c.used.ensures, c.put_s1_to_n1.ensures, sym c.in_default.ensures, s1-length c.args.self.core c.args.ncc c.args.ngksi)
