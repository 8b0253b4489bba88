use mathlib.Core.Path.{◌≡◌, ap, sym, ◌∙◌}
use Prim.Native.Nat.{◌≤◌}
use native.Mathlib.Omega.{arith}
use lib.ListN.{length, take}
use lib.Seq.{length-take-le}
use Rattle.aes.specs.declared.Input.{Input}
use Rattle.nas_core.specs.Keyed.{code_by}
use Rattle.nas_core.proofs.Octets.{rest}
use Rattle.nas_eps.specs.Octets.{short_code, short_fits}
use Rattle.nas_eps.proofs.request.fits.Goals as goal

pub returns-then-wraps : goal.returns-then-wraps
unfolding short_fits
returns-then-wraps c =
    simp (sym c.wraps.ensures ∙ c.if-wraps.true)

pub slice_bounds-code-end : goal.slice_bounds-code-end
slice_bounds-code-end c =
    let l : 2 ≤ length c.args.message.now = omega (arith, c.requires) in sym (length-take-le 2 c.args.message.now l)

pub returns : goal.returns
unfolding short_fits short_code
returns c =
    let a = c.args in
    let code : c.code-code.result ≡ code_by a.core a.count 0 0 (take 2 a.message.now) =
    c.code-code.ensures ∙ ap (λ (i : Input). code_by a.core i.count i.bearer i.direction (take 2 a.message.now)) c.input.ensures in
    simp (sym c.wraps.ensures ∙ c.if-wraps.false, c.is_short_code.ensures, code, rest 2 a.message.now)
