use Rattle.std.proofs.Common.{sym, ◌∙◌}
use Rattle.refusals.proofs.Laws.{number-not0}
use Rattle.std.proofs.Common.{arith}
use Rattle.initial.proofs.Laws.{laws}
use Rattle.nas_5gs.specs.Initial.{initial_of}
use Rattle.nas_5gs.proofs.Passed.{initial-passed, initial-whole}
use Rattle.nas_5gs.proofs.Context.initial.Goals as goal

pub send_initial-requires : goal.send_initial-requires
send_initial-requires c =
    let none = sym c.in-Ok.ensures in
    let q = initial-passed _ _ _ _ none in
    let w = c.args.whole.now in
    (q.size, q.next, initial-whole _ _ _ _ none, omega (arith, q.short, (laws.out w w).no-shorter), q.room)

pub returns-in-Err : goal.returns-in-Err
unfolding initial_of
returns-in-Err c =
    simp (c.unchanged.ensures.0, c.unchanged.ensures.1, sym c.in-Err.ensures, number-not0 c.in-Err.refusal)

pub returns-in-Ok : goal.returns-in-Ok
unfolding initial_of
returns-in-Ok c =
    simp (sym c.in-Ok.ensures) c.send_initial.ensures
