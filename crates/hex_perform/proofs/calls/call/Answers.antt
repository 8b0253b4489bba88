use mathlib.Core.Path.{ap}
use Rattle.hex_perform.specs.Answers.{beside, keeping}
use Rattle.hex_perform.specs.Perform.{call_of}
use Rattle.hex_perform.proofs.calls.call.Goals as goal

pub returns-in-Bad : goal.returns-in-Bad
unfolding call_of
returns-in-Bad c =
    rw c.in-Bad.is

pub returns-in-New : goal.returns-in-New
unfolding call_of
returns-in-New c =
    rw c.in-New.is (ap (keeping c.args.out.now c.args.second.now) c.create.ensures)

pub returns-in-Restore : goal.returns-in-Restore
unfolding call_of
returns-in-Restore c =
    rw c.in-Restore.is (ap (keeping c.args.out.now c.args.second.now) c.restore.ensures)

pub returns-in-Reselect : goal.returns-in-Reselect
unfolding call_of
returns-in-Reselect c =
    rw c.in-Reselect.is (ap (keeping c.args.out.now c.args.second.now) c.reselect.ensures)

pub returns-in-Window : goal.returns-in-Window
unfolding call_of
returns-in-Window c =
    rw c.in-Window.is (ap (keeping c.args.out.now c.args.second.now) c.window.ensures)

pub returns-in-Seal : goal.returns-in-Seal
unfolding call_of
returns-in-Seal c =
    rw c.in-Seal.is (ap (beside c.args.second.now) c.seal.ensures)

pub returns-in-Opaque : goal.returns-in-Opaque
unfolding call_of
returns-in-Opaque c =
    rw c.in-Opaque.is (ap (beside c.args.second.now) c.opaque.ensures)

pub returns-in-Initial : goal.returns-in-Initial
unfolding call_of
returns-in-Initial c =
    rw c.in-Initial.is (ap (beside c.args.second.now) c.initial.ensures)

pub returns-in-Open : goal.returns-in-Open
unfolding call_of
returns-in-Open c =
    rw c.in-Open.is c.open.ensures

pub returns-in-EpsSeal : goal.returns-in-EpsSeal
unfolding call_of
returns-in-EpsSeal c =
    rw c.in-EpsSeal.is (ap (beside c.args.second.now) c.eps_seal.ensures)

pub returns-in-EpsOpen : goal.returns-in-EpsOpen
unfolding call_of
returns-in-EpsOpen c =
    rw c.in-EpsOpen.is (ap (beside c.args.second.now) c.eps_open.ensures)

pub returns-in-N1ToS1 : goal.returns-in-N1ToS1
unfolding call_of
returns-in-N1ToS1 c =
    rw c.in-N1ToS1.is (ap (keeping c.args.out.now c.args.second.now) c.n1_to_s1.ensures)

pub returns-in-VerifyN1ToS1 : goal.returns-in-VerifyN1ToS1
unfolding call_of
returns-in-VerifyN1ToS1 c =
    rw c.in-VerifyN1ToS1.is (ap (keeping c.args.out.now c.args.second.now) c.verify_n1_to_s1.ensures)

pub returns-in-S1ToN1 : goal.returns-in-S1ToN1
unfolding call_of
returns-in-S1ToN1 c =
    rw c.in-S1ToN1.is (ap (beside c.args.second.now) c.s1_to_n1.ensures)

pub returns-in-VerifyS1ToN1 : goal.returns-in-VerifyS1ToN1
unfolding call_of
returns-in-VerifyS1ToN1 c =
    rw c.in-VerifyS1ToN1.is (ap (keeping c.args.out.now c.args.second.now) c.verify_s1_to_n1.ensures)

pub returns-in-Raw : goal.returns-in-Raw
unfolding call_of
returns-in-Raw c =
    rw (c.in-Raw.is, c.raw.ensures)

pub returns-in-Show : goal.returns-in-Show
unfolding call_of
returns-in-Show c =
    rw c.in-Show.is

pub returns-in-Across : goal.returns-in-Across
unfolding call_of
returns-in-Across c =
    rw c.in-Across.is c.across.ensures

pub returns-in-WindowIn : goal.returns-in-WindowIn
unfolding call_of
returns-in-WindowIn c =
    rw c.in-WindowIn.is (ap (keeping c.args.out.now c.args.second.now) c.window_in.ensures)

pub returns-in-SealIn : goal.returns-in-SealIn
unfolding call_of
returns-in-SealIn c =
    rw c.in-SealIn.is (ap (beside c.args.second.now) c.seal_in.ensures)

pub returns-in-OpenIn : goal.returns-in-OpenIn
unfolding call_of
returns-in-OpenIn c =
    rw c.in-OpenIn.is c.open_in.ensures
