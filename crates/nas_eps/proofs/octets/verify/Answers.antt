use mathlib.Core.Path.{ap, sym, ◌∙◌}
use mathlib.Core.Bool.{Bool}
use native.Mathlib.Omega.{arith}
use Prim.Native.Nat.{ℕ, ◌-◌}
use lib.ListN.{length, take, drop, length-take, length-drop}
use lib.Seq.{length-take-le}
use Rattle.nas_core.specs.Types.{ciphers}
use Rattle.nas_core.specs.Keyed.{payload}
use Rattle.nas_core.specs.Leaves.{read_as}
use Rattle.nas_core.proofs.Keys.{payload-length}
use Rattle.nas_core.proofs.Taken.{front_read}
use Rattle.nas_eps.specs.Octets.{type_of}
use Rattle.nas_eps.proofs.octets.verify.Goals as goal

pub slice_bounds-verify-end-2 : goal.slice_bounds-verify-end-2
slice_bounds-verify-end-2 c =
    sym (length-take-le _ _ c.requires.1)

pub verify-requires : goal.verify-requires
verify-requires c =
    simp length-take (omega (arith, c.requires))

pub returns : goal.returns
returns c =
    let a = c.args in
    let m = a.message.now in
    let out = a.out.now in
    let n = length m - 6 in record {
      opening = c.verify.ensures.opening;
      read = front_read (λ (k : ℕ). payload a.core (ciphers (type_of m)) k 0 a.direction (drop 6 m)) n out _ c.verify.result
          (λ k. payload-length a.core k 0 a.direction (drop 6 m) (ciphers (type_of m)) ∙ length-drop 6 m)
          (c.verify.ensures.read ∙
          ap (λ (t : Bool). read_as (λ (k : ℕ). payload a.core t k 0 a.direction (drop 6 m)) (take n out) c.verify.result) c.is_ciphering-ciphered.ensures);
    }
