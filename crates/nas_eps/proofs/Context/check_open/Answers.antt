use Rattle.std.proofs.Common.{sym, ◌∙◌, arith}
use Rattle.nas_eps.proofs.Passed.{form-passed, message-form, first_one}
use Rattle.nas_eps.specs.Open.{open_refusal}
use Rattle.nas_eps.proofs.Context.check_open.Goals as goal

pub bounds-message-0 : goal.bounds-message-0
bounds-message-0 c =
    (form-passed _ (sym c.in_ok-check_form.ensures)).0

pub returns-then-is_request : goal.returns-then-is_request
unfolding open_refusal
returns-then-is_request c =
    simp (sym c.in_ok-check.ensures, sym c.in_ok-check_form.ensures, sym c.is_request.ensures ∙ c.if-is_request.true)
    (c.check_way.ensures ∙ sym (first_one _))

pub check_handing-requires : goal.check_handing-requires
check_handing-requires c =
    let l = message-form _ (sym c.in_ok-check_form.ensures) (sym c.is_request.ensures ∙ c.if-is_request.false) in omega arith

pub returns : goal.returns
unfolding open_refusal
returns c =
    simp (sym c.in_ok-check.ensures, sym c.in_ok-check_form.ensures, sym c.is_request.ensures ∙ c.if-is_request.false)
    c.check_handing.ensures
