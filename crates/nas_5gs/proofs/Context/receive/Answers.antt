use Rattle.std.proofs.Common.{[], ap, sym, ◌∙◌}
use native.Mathlib.Omega.{arith}
use Rattle.nas_core.proofs.Choices.{late-chosen, forward-chosen, taken-as, missed-reads}
use Rattle.refusals.specs.Numbers.{number_of}
use Rattle.refusals.specs.declared.Refusal.{Refusal}
use Rattle.count.specs.declared.Taken.TheVariants.{Late, Forward}
use Rattle.nas_5gs.proofs.Passed.{late-near, ahead-near}
use Rattle.nas_5gs.proofs.Handed.{shown, lent, hands, missed}
use Rattle.nas_5gs.specs.OpenAnswer.{Refused, told_open}
use Rattle.nas_5gs.specs.Open.{type_of, plain_of, opened}
use borrow.Author.Rules.{rules}
use Rattle.nas_5gs.proofs.Context.receive.Goals as goal

pub distance_to-far-requires : goal.distance_to-far-requires
distance_to-far-requires c =
    late-near _ _ (late-chosen _ _ _ _ _ _ _ (search rules) c.requires.1 (sym c.read.ensures.opening ∙ taken-as _ _ (Late c.in-Late.count) c.in-Ok.is c.in-Late.is)).1

pub slice_bounds-hand-end-in-Late : goal.slice_bounds-hand-end-in-Late
slice_bounds-hand-end-in-Late c =
    let a = c.args in
    let x = a.self.core in
    let t = type_of a.message.now in
    let e = rw (taken-as _ _ (Late c.in-Late.count) c.in-Ok.is c.in-Late.is) at c.read.ensures.plain in
    sym (lent x t _ a.bearer a.direction a.message.now a.out.now _ e)

pub hand-requires : goal.hand-requires
hand-requires c =
    let a = c.args in
    let x = a.self.core in
    let t = type_of a.message.now in
    let e = rw (taken-as _ _ (Late c.in-Late.count) c.in-Ok.is c.in-Late.is) at c.read.ensures.plain in
    λ h g. omega (arith, lent x t _ a.bearer a.direction a.message.now a.out.now _ e, c.requires.4 h g)

pub used_late-requires : goal.used_late-requires
used_late-requires c =
    let l = late-chosen _ _ _ _ _ _ _ (search rules) c.requires.1 (sym c.read.ensures.opening ∙ taken-as _ _ (Late c.in-Late.count) c.in-Ok.is c.in-Late.is) in (search rules, l.0, l.1)

pub distance_to-far-requires-in-Forward : goal.distance_to-far-requires-in-Forward
distance_to-far-requires-in-Forward c =
    ahead-near _ _ (forward-chosen _ _ _ _ _ _ _ (search rules) (sym c.read.ensures.opening ∙ taken-as _ _ (Forward c.in-Forward.count) c.in-Ok.is c.in-Forward.is)).2

pub slice_bounds-hand-end-in-Forward-2 : goal.slice_bounds-hand-end-in-Forward-2
slice_bounds-hand-end-in-Forward-2 c =
    let a = c.args in
    let x = a.self.core in
    let t = type_of a.message.now in
    let e = rw (taken-as _ _ (Forward c.in-Forward.count) c.in-Ok.is c.in-Forward.is) at c.read.ensures.plain in
    sym (lent x t _ a.bearer a.direction a.message.now a.out.now _ e)

pub hand-requires-in-Forward : goal.hand-requires-in-Forward
hand-requires-in-Forward c =
    let a = c.args in
    let x = a.self.core in
    let t = type_of a.message.now in
    let e = rw (taken-as _ _ (Forward c.in-Forward.count) c.in-Ok.is c.in-Forward.is) at c.read.ensures.plain in
    λ h g. omega (arith, lent x t _ a.bearer a.direction a.message.now a.out.now _ e, c.requires.4 h g)

pub used-requires : goal.used-requires
used-requires c =
    let f = forward-chosen _ _ _ _ _ _ _ (search rules) (sym c.read.ensures.opening ∙ taken-as _ _ (Forward c.in-Forward.count) c.in-Ok.is c.in-Forward.is) in (search rules, f.0, c.requires.1, f.1)

pub returns-in-Err : goal.returns-in-Err
returns-in-Err c =
    let a = c.args in
    missed _ _ _ _ _ _ a.second.now _ _ _ c.in-Err.missed (sym c.read.ensures.opening ∙ c.in-Err.is)
    (ap told_open c.unchanged.ensures.0 ∙ ap (λ (r : Refusal). Refused (number_of r)) c.from.ensures)
    c.unchanged.ensures.1 ((rw c.in-Err.is at c.read.ensures.plain) ∙ missed-reads (λ n. []) _ c.in-Err.missed)

pub returns-in-Late : goal.returns-in-Late
unfolding opened plain_of
returns-in-Late c =
    let a = c.args in
    let x = a.self.core in
    let t = type_of a.message.now in
    let e = rw (taken-as _ _ (Late c.in-Late.count) c.in-Ok.is c.in-Late.is) at c.read.ensures.plain in
    simp (sym c.read.ensures.opening ∙ taken-as _ _ (Late c.in-Late.count) c.in-Ok.is c.in-Late.is)
    (hands x t a.direction _ a.bearer _ _ _ _ _ _ _ _ _ a.out.now a.second.now
    (shown x t _ a.bearer a.direction a.message.now a.out.now _ e) c.distance_to-far.ensures c.used_late.ensures e c.hand.ensures.answer c.hand.ensures.wrote)

pub returns-in-Forward : goal.returns-in-Forward
unfolding opened plain_of
returns-in-Forward c =
    let a = c.args in
    let x = a.self.core in
    let t = type_of a.message.now in
    let e = rw (taken-as _ _ (Forward c.in-Forward.count) c.in-Ok.is c.in-Forward.is) at c.read.ensures.plain in
    simp (sym c.read.ensures.opening ∙ taken-as _ _ (Forward c.in-Forward.count) c.in-Ok.is c.in-Forward.is)
    (hands x t a.direction _ a.bearer _ _ _ _ _ _ _ _ _ a.out.now a.second.now
    (shown x t _ a.bearer a.direction a.message.now a.out.now _ e) c.distance_to-far-in-Forward.ensures c.used.ensures e c.hand-in-Forward.ensures.answer c.hand-in-Forward.ensures.wrote)
