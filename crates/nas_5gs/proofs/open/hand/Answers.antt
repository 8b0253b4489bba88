use Rattle.std.proofs.Common.{sym, ap, ◌∙◌}
use Rattle.refusals.specs.Numbers.{refused}
use Rattle.refusals.proofs.Laws.{number-not0}
use Rattle.nas_5gs.proofs.open.hand.Goals as goal

pub returns-in-Ok : goal.returns-in-Ok
returns-in-Ok c =
    record { answer = simp (sym c.read_inside.ensures.number ∙ ap refused c.in-Ok.is, sym (c.read_inside.ensures.handed _ c.in-Ok.is)); wrote = c.read_inside.ensures.wrote }

pub returns-in-Err : goal.returns-in-Err
returns-in-Err c =
    record { answer = simp (sym c.read_inside.ensures.number ∙ ap refused c.in-Err.is, number-not0 c.in-Err.refusal); wrote = c.read_inside.ensures.wrote }
