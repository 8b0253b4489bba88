use mathlib.Core.Path.{ap, sym, ◌∙◌}
use native.Mathlib.Omega.{arith}
use Prim.Native.Nat.{ℕ, ◌-◌}
use mathlib.Core.Bool.{Bool}
use mathlib.Core.List.{List}
use lib.ListN.{length, take, drop, length-take, length-drop}
use lib.Seq.{length-take-le}
use Rattle.nas_core.specs.Keyed.{payload}
use Rattle.nas_core.specs.Leaves.{read_as}
use Rattle.nas_core.proofs.Keys.{payload-length}
use Rattle.nas_core.proofs.Taken.{front_read}
use Rattle.envelope.specs.Envelope.{ciphers}
use Rattle.envelope.proofs.read.Goals as goal

pub slice_bounds-verify-end-2 : goal.slice_bounds-verify-end-2
slice_bounds-verify-end-2 c =
    sym (length-take-le _ _ c.requires.1)

pub verify-requires : goal.verify-requires
verify-requires c =
    simp length-take (omega (arith, c.requires))

pub returns : goal.returns
returns c =
    let a = c.args in
    let m = a.message.now in
    let n = length m - 7 in
    let plain : (Bool → ℕ → List ℕ) = λ t k. payload a.core t k a.bearer a.direction (drop 7 m) in record {
      opening = c.verify.ensures.opening;
      plain = front_read (plain (ciphers a.header_type)) n a.out.now _ c.verify.result
          (λ k. payload-length a.core k a.bearer a.direction (drop 7 m) (ciphers a.header_type) ∙ length-drop 7 m)
          (c.verify.ensures.read ∙ ap (λ (t : Bool). read_as (plain t) (take n a.out.now) c.verify.result) c.is_ciphering-ciphered.ensures);
    }
