use Rattle.std.proofs.Common.{[], ap, sym, ◌∙◌, rules}
use Rattle.nas_core.proofs.Choices.{late-chosen, forward-chosen, late-near, ahead-near, taken-as, missed-reads}
use Rattle.refusals.specs.Numbers.{number_of}
use Rattle.refusals.specs.declared.Refusal.{Refusal}
use Rattle.count.specs.declared.Taken.TheVariants.{Late, Forward}
use Rattle.nas_eps.specs.OpenAnswer.{Refused, told_open}
use Rattle.nas_eps.specs.Open.{opened}
use Rattle.nas_eps.proofs.Handed.{accepted, missed}
use Rattle.nas_eps.proofs.Context.receive.Goals as goal

pub distance_to-requires : goal.distance_to-requires
distance_to-requires c =
    late-near _ _ (late-chosen _ _ _ _ _ _ _ (search rules) c.requires.1 (sym c.verify.ensures.opening ∙ taken-as _ _ (Late c.in-Late.count) c.in-Ok.is c.in-Late.is)).1

pub used_late-requires : goal.used_late-requires
used_late-requires c =
    let l = late-chosen _ _ _ _ _ _ _ (search rules) c.requires.1 (sym c.verify.ensures.opening ∙ taken-as _ _ (Late c.in-Late.count) c.in-Ok.is c.in-Late.is) in (search rules, l.0, l.1)

pub distance_to-requires-in-Forward : goal.distance_to-requires-in-Forward
distance_to-requires-in-Forward c =
    ahead-near _ _ (forward-chosen _ _ _ _ _ _ _ (search rules) (sym c.verify.ensures.opening ∙ taken-as _ _ (Forward c.in-Forward.count) c.in-Ok.is c.in-Forward.is)).2

pub used-requires : goal.used-requires
used-requires c =
    let f = forward-chosen _ _ _ _ _ _ _ (search rules) (sym c.verify.ensures.opening ∙ taken-as _ _ (Forward c.in-Forward.count) c.in-Ok.is c.in-Forward.is) in (search rules, f.0, c.requires.1, f.1)

pub returns-in-Err : goal.returns-in-Err
returns-in-Err c =
    missed _ _ _ _ _ _ _ c.in-Err.missed (sym c.verify.ensures.opening ∙ c.in-Err.is)
    (ap told_open c.unchanged.ensures.0 ∙ ap (λ (r : Refusal). Refused (number_of r)) c.from.ensures)
    c.unchanged.ensures.1 ((rw c.in-Err.is at c.verify.ensures.read) ∙ missed-reads (λ n. []) _ c.in-Err.missed)

pub returns-in-Late : goal.returns-in-Late
unfolding opened
returns-in-Late c =
    let a = c.args in
    let told = taken-as _ _ (Late c.in-Late.count) c.in-Ok.is c.in-Late.is in
    simp (sym c.verify.ensures.opening ∙ told)
    (accepted _ a.direction _ _ _ _ _ a.message.now a.out.now _ c.distance_to.ensures c.used_late.ensures (rw told at c.verify.ensures.read))

pub returns-in-Forward : goal.returns-in-Forward
unfolding opened
returns-in-Forward c =
    let a = c.args in
    let told = taken-as _ _ (Forward c.in-Forward.count) c.in-Ok.is c.in-Forward.is in
    simp (sym c.verify.ensures.opening ∙ told)
    (accepted _ a.direction _ _ _ _ _ a.message.now a.out.now _ c.distance_to-in-Forward.ensures c.used.ensures (rw told at c.verify.ensures.read))
