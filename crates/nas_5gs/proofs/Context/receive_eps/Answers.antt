use Rattle.std.proofs.Common.{[], ap, sym, ◌∙◌}
use lib.ListN.{drop}
use Rattle.nas_core.proofs.Octets.{rest}
use Rattle.nas_core.proofs.Choices.{late-chosen, forward-chosen, taken-as, missed-reads}
use Rattle.refusals.specs.Numbers.{number_of}
use Rattle.refusals.specs.declared.Refusal.{Refusal}
use Rattle.count.specs.declared.Taken.TheVariants.{Late, Forward}
use Rattle.nas_5gs.proofs.Passed.{late-near, ahead-near}
use Rattle.nas_5gs.proofs.Handed.{hands-eps, missed-eps}
use Rattle.nas_5gs.specs.EpsOpenAnswer.{told_eps_open}
use Rattle.nas_5gs.specs.EpsOpenAnswer as eps
use Rattle.nas_5gs.specs.Eps.{eps_opened}
use borrow.Author.Rules.{rules}
use Rattle.nas_5gs.proofs.Context.receive_eps.Goals as goal

pub distance_to-requires : goal.distance_to-requires
distance_to-requires c =
    late-near _ _ (late-chosen _ _ _ _ _ _ _ (search rules) c.requires.0 (sym c.read_eps.ensures.opening ∙ taken-as _ _ (Late c.in-Late.c) c.in-Ok.is c.in-Late.is)).1

pub used_late-requires : goal.used_late-requires
used_late-requires c =
    let l = late-chosen _ _ _ _ _ _ _ (search rules) c.requires.0 (sym c.read_eps.ensures.opening ∙ taken-as _ _ (Late c.in-Late.c) c.in-Ok.is c.in-Late.is) in (search rules, l.0, l.1)

pub distance_to-requires-in-Forward : goal.distance_to-requires-in-Forward
distance_to-requires-in-Forward c =
    ahead-near _ _ (forward-chosen _ _ _ _ _ _ _ (search rules) (sym c.read_eps.ensures.opening ∙ taken-as _ _ (Forward c.in-Forward.c) c.in-Ok.is c.in-Forward.is)).2

pub used-requires : goal.used-requires
used-requires c =
    let f = forward-chosen _ _ _ _ _ _ _ (search rules) (sym c.read_eps.ensures.opening ∙ taken-as _ _ (Forward c.in-Forward.c) c.in-Ok.is c.in-Forward.is) in (search rules, f.0, c.requires.0, f.1)

pub returns-in-Err : goal.returns-in-Err
returns-in-Err c =
    let a = c.args in
    missed-eps _ _ _ _ _ _ c.in-Err.missed (sym c.read_eps.ensures.opening ∙ c.in-Err.is)
    (ap told_eps_open c.unchanged.ensures.0 ∙ ap (λ (r : Refusal). eps.Refused (number_of r)) c.from.ensures)
    c.unchanged.ensures.1 ((rw c.in-Err.is at c.read_eps.ensures.plain) ∙ missed-reads (λ n. []) _ c.in-Err.missed)

pub returns-in-Late : goal.returns-in-Late
unfolding eps_opened
returns-in-Late c =
    let a = c.args in
    simp (sym c.read_eps.ensures.opening ∙ taken-as _ _ (Late c.in-Late.c) c.in-Ok.is c.in-Late.is)
    (hands-eps _ _ _ _ _ _ (drop 6 a.message.now) _ _ a.out.now
    (rest 6 a.message.now) c.distance_to.ensures c.used_late.ensures (rw (taken-as _ _ (Late c.in-Late.c) c.in-Ok.is c.in-Late.is) at c.read_eps.ensures.plain) c.hand_eps.ensures)

pub returns-in-Forward : goal.returns-in-Forward
unfolding eps_opened
returns-in-Forward c =
    let a = c.args in
    simp (sym c.read_eps.ensures.opening ∙ taken-as _ _ (Forward c.in-Forward.c) c.in-Ok.is c.in-Forward.is)
    (hands-eps _ _ _ _ _ _ (drop 6 a.message.now) _ _ a.out.now
    (rest 6 a.message.now) c.distance_to-in-Forward.ensures c.used.ensures (rw (taken-as _ _ (Forward c.in-Forward.c) c.in-Ok.is c.in-Forward.is) at c.read_eps.ensures.plain) c.hand_eps-in-Forward.ensures)
