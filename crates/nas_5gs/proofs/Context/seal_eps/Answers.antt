use Rattle.std.proofs.Common.{sym, ◌∙◌, rules}
use Rattle.refusals.proofs.Laws.{number-not0}
use Rattle.nas_5gs.proofs.Passed.{seal-eps-passed}
use Rattle.envelope.proofs.Lengths.{eps-length}
use Rattle.nas_5gs.specs.Leaves.{use_next}
use Rattle.nas_5gs.specs.Places.{next_at}
use Rattle.nas_5gs.specs.Eps.{seal_eps_of}
use Rattle.nas_5gs.proofs.Context.seal_eps.Goals as goal

pub returns-in-Err : goal.returns-in-Err
unfolding seal_eps_of use_next
returns-in-Err c =
    simp (c.unchanged.ensures.0, c.unchanged.ensures.1, sym c.in-Err.ensures, number-not0 c.in-Err.refusal)

pub put_eps-requires : goal.put_eps-requires
put_eps-requires c =
    (seal-eps-passed _ _ _ (sym c.in_default.ensures)).room

pub used-requires : goal.used-requires
used-requires c =
    let q = seal-eps-passed _ _ _ (sym c.in_default.ensures) in (search rules, q.next, q.size, λ _. search rules)

pub returns : goal.returns
unfolding seal_eps_of use_next
returns c =
    simp (c.used.ensures, c.put_eps.ensures, sym c.in_default.ensures, eps-length c.args.self.core (next_at c.args.self 0) c.args.inner.now)
