use mathlib.Core.Path.{◌≡◌, sym, ◌∙◌}
use Rattle.nas_core.proofs.Octets.{rest}
use Prim.Native.Nat.{◌+◌, ◌-◌}
use native.Mathlib.Omega.{arith}
use Rattle.nas_core.specs.Verify.{fits}
use Rattle.nas_core.proofs.Core.fits.Goals as goal

pub returns-then-wraps : goal.returns-then-wraps
unfolding fits
returns-then-wraps c =
    simp (sym c.wraps.ensures ∙ c.if-wraps.true)

pub returns : goal.returns
unfolding fits
returns c =
    let a = c.args in
    let four : (a.at + 4) - a.at ≡ 4 = omega arith in
    simp (sym c.wraps.ensures ∙ c.if-wraps.false, c.is_code.ensures, c.code-code.ensures, rest (a.at + 4) a.message.now, four)
