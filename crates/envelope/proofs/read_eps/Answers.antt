use mathlib.Core.Path.{sym}
use native.Mathlib.Omega.{arith}
use Prim.Native.Nat.{◌-◌}
use lib.ListN.{length, drop, length-take, length-drop}
use lib.Seq.{length-take-le}
use Rattle.nas_core.specs.Keyed.{payload}
use Rattle.nas_core.proofs.Taken.{front_read}
use Rattle.envelope.proofs.read_eps.Goals as goal

pub slice_bounds-verify-end-2 : goal.slice_bounds-verify-end-2
slice_bounds-verify-end-2 c =
    sym (length-take-le _ _ c.requires.1)

pub verify-requires : goal.verify-requires
verify-requires c =
    simp length-take (omega (arith, c.requires))

pub returns : goal.returns
unfolding payload
returns c =
    let a = c.args in
    let m = a.message.now in
    record { opening = c.verify.ensures.opening; plain = front_read (λ k. drop 6 m) (length m - 6) a.out.now _ c.verify.result (λ k. length-drop 6 m) c.verify.ensures.read }
