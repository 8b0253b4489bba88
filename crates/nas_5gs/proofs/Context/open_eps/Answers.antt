use Rattle.std.proofs.Common.{sym, ◌∙◌}
use Rattle.refusals.proofs.Laws.{number-not0}
use Rattle.nas_5gs.proofs.Passed.{open-eps-passed}
use Rattle.nas_5gs.specs.Eps.{open_eps_of}
use Rattle.nas_5gs.proofs.Context.open_eps.Goals as goal

pub receive_eps-requires : goal.receive_eps-requires
receive_eps-requires c =
    let q = open-eps-passed _ _ _ (sym c.in-Ok.ensures) in (q.size, q.whole, q.room)

pub returns-in-Err : goal.returns-in-Err
unfolding open_eps_of
returns-in-Err c =
    simp (c.unchanged.ensures.0, c.unchanged.ensures.1, sym c.in-Err.ensures, number-not0 c.in-Err.refusal)

pub returns-in-Ok : goal.returns-in-Ok
unfolding open_eps_of
returns-in-Ok c =
    simp (sym c.in-Ok.ensures) c.receive_eps.ensures
