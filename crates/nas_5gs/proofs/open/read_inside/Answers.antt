use Rattle.std.proofs.Common.{◌≡◌, ℕ, sym, ap, ◌∙◌}
use Rattle.refusals.specs.Numbers.{number_of}
use Rattle.look.specs.Look.{look_of}
use Rattle.envelope.specs.Initial.{beside_of}
use Rattle.nas_5gs.proofs.Handed.{nothing, looked, hid, hid-length, erred, never-0, kept}
use Rattle.nas_5gs.proofs.open.read_inside.Goals as goal

pub returns-in_err-look-clause-number : goal.returns-in_err-look-clause-number
returns-in_err-look-clause-number c =
    erred _ c.in_err-look.field-0.0 c.from_residual.ensures.1 ∙ looked _ _ _ c.in_err-look.ensures (never-0 c.in_err-look.field-0.0)

pub returns-in_err-look-clause-wrote : goal.returns-in_err-look-clause-wrote
returns-in_err-look-clause-wrote c =
    let a = c.args in
    kept _ _ (nothing a.core a.header_type a.input.count a.input.bearer a.input.direction a.plain.now (λ e. never-0 c.in_err-look.field-0.0 (c.in_err-look.ensures ∙ e)))

pub returns-clause-number : goal.returns-clause-number
returns-clause-number c =
    hid _ _ _ c.in_ok-look.ensures c.read_beside.ensures.answer

pub returns-clause-handed : goal.returns-clause-handed
returns-clause-handed c =
    λ n e. hid-length _ n (sym c.read_beside.ensures.answer ∙ e)
