use native.Mathlib.Omega.{arith}
use lib.Pow.{pow_mono}
use mathlib.Core.Path.{◌≡◌, refl}
use Prim.Native.Nat.{◌*◌, ◌%◌, ◌^◌, ◌≤◌}
use Rattle.std.proofs.lemmas.Nat.{one_shl}
use Rattle.count.proofs.Distance.{distance-lt, distance-wraps}
use Rattle.count.proofs.distance_up.Goals as goal

pub returns : goal.returns
returns c =
    let a = c.args in
    let m : 2 ^ a.k ≤ 2 ^ 8 = pow_mono c.requires in
    let e : 1 * 2 ^ a.k % 2 ^ 32 ≡ 2 ^ a.k = one_shl a.k 32 (omega arith) in
    let d = distance-wraps a.k a.a a.b (omega arith) (omega arith) in
    rw (e, d) (refl, omega (arith, distance-lt a.k a.a a.b))
