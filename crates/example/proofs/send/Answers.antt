use Prim.Native.Nat.{◌≤◌}
use mathlib.Core.Path.{sym}
use lib.Seq.{length-take-le}
use native.Mathlib.Omega.{arith}
use Rattle.promises.proofs.Lent.{seal-within}
use borrow.Author.Rules.{rules}
use Rattle.example.proofs.send.Goals.{In-Ok}
use Rattle.example.proofs.send.Goals as goal

within : (c : In-Ok) → c.in-Ok.field-0.wrote ≤ 64
within c = seal-within _ _ _ _ _ _ _ _ _ _ (rw c.in-Ok.is at c.seal-answer.ensures)

pub slice_bounds-out-end : goal.slice_bounds-out-end
slice_bounds-out-end c =
    let fits = within (goal.at.slice_bounds-out-end c).In-Ok in
    search (rules, fits)

pub slice_bounds-transmit-end : goal.slice_bounds-transmit-end
slice_bounds-transmit-end c =
    let fits = within (goal.at.slice_bounds-transmit-end c).In-Ok in
    sym (length-take-le _ _ (omega (arith, fits, c.seal-answer.auto.out)))
