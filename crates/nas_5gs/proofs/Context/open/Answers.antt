use mathlib.Core.Path.{◌≡◌, sym, ◌∙◌}
use mathlib.Core.List.{List}
use Prim.Native.Nat.{ℕ}
use lib.ListN.{length}
use Rattle.refusals.proofs.Laws.{number-not0}
use Rattle.nas_5gs.proofs.Passed.{open-passed, rooms}
use Rattle.nas_core.specs.declared.Direction.{Direction}
use Rattle.nas_5gs.specs.declared.Connection.{Connection}
use Rattle.nas_5gs.specs.declared.Context.{Context}
use Rattle.nas_5gs.specs.OpenAnswer.{OpenAnswer}
use Rattle.nas_5gs.specs.Places.{direction_no, bearer_no, place_of}
use Rattle.nas_5gs.specs.Leaves.{LeavesTwo}
use Rattle.nas_5gs.specs.Open.{type_of, open_refusal, room_for, opened, open_of}
use Rattle.nas_5gs.proofs.Context.open.Goals as goal

pub receive-requires : goal.receive-requires
receive-requires c =
    let told = rw c.room_for-room.ensures at c.in-Ok.ensures in
    let q = open-passed _ _ _ (sym told) in
    let r = rooms _ _ _ _ _ q.room in
    (c.place-p.ensures.1, q.size, q.whole, r.0, r.1)

pub returns-in-Err : goal.returns-in-Err
unfolding open_of
returns-in-Err c =
    let told = rw (c.room_for-room.ensures, c.number-d.ensures.0) at c.in-Err.ensures in
    simp (c.unchanged.ensures.0, c.unchanged.ensures.1, sym told, number-not0 c.in-Err.refusal)

-- not refused: what `receive` leaves
passes : (x : Context) (d : Direction) (k : Connection) (m out second : List ℕ) (p b dn : ℕ) (r : LeavesTwo OpenAnswer)
    → p ≡ place_of d k → b ≡ bearer_no k → dn ≡ direction_no d → open_refusal x m (room_for (type_of m) dn (length out) (length second)) ≡ 0
    → r ≡ opened x p b dn m out second → r ≡ open_of x d k m out second
unfolding open_of
passes x d k m out second p b dn r pe be de z e = rw (sym pe, sym be, sym de, z) e

pub returns-in-Ok : goal.returns-in-Ok
returns-in-Ok c =
    let told = rw c.room_for-room.ensures at c.in-Ok.ensures in
    passes _ _ _ _ _ _ _ _ _ _ c.place-p.ensures.0 c.bearer.ensures c.number-d.ensures.0 (sym told) c.receive.ensures
