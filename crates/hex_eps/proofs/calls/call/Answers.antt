use mathlib.Core.Path.{ap}
use Rattle.hex_eps.specs.Answers.{keeping}
use Rattle.hex_eps.specs.Perform.{call_of}
use Rattle.hex_eps.proofs.calls.call.Goals as goal

pub returns-in-Bad : goal.returns-in-Bad
unfolding call_of
returns-in-Bad c =
    rw c.in-Bad.is

pub returns-in-New : goal.returns-in-New
unfolding call_of
returns-in-New c =
    rw c.in-New.is (ap (keeping c.args.out.now) c.create.ensures)

pub returns-in-Restore : goal.returns-in-Restore
unfolding call_of
returns-in-Restore c =
    rw c.in-Restore.is (ap (keeping c.args.out.now) c.restore.ensures)

pub returns-in-Reselect : goal.returns-in-Reselect
unfolding call_of
returns-in-Reselect c =
    rw c.in-Reselect.is (ap (keeping c.args.out.now) c.reselect.ensures)

pub returns-in-Window : goal.returns-in-Window
unfolding call_of
returns-in-Window c =
    rw c.in-Window.is (ap (keeping c.args.out.now) c.window.ensures)

pub returns-in-Seal : goal.returns-in-Seal
unfolding call_of
returns-in-Seal c =
    rw c.in-Seal.is c.seal.ensures

pub returns-in-Request : goal.returns-in-Request
unfolding call_of
returns-in-Request c =
    rw c.in-Request.is c.request.ensures

pub returns-in-Open : goal.returns-in-Open
unfolding call_of
returns-in-Open c =
    rw c.in-Open.is c.open.ensures

pub returns-in-Raw : goal.returns-in-Raw
unfolding call_of
returns-in-Raw c =
    rw (c.in-Raw.is, c.raw.ensures)

pub returns-in-Show : goal.returns-in-Show
unfolding call_of
returns-in-Show c =
    rw c.in-Show.is
