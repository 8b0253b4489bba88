use Rattle.std.proofs.Common.{ℕ, ap, sym, ◌∙◌, arith}
use Rattle.refusals.proofs.Laws.{number-not0}
use Rattle.nas_eps.proofs.Passed.{open-passed, form-passed, request-form, message-form}
use Rattle.nas_eps.specs.Open.{opened, requested, open_of}
use Rattle.nas_eps.proofs.Context.open.Goals as goal

pub returns-in-Err : goal.returns-in-Err
unfolding open_of
returns-in-Err c =
    simp (c.unchanged.ensures.0, c.unchanged.ensures.1, sym c.in-Err.ensures, number-not0 c.in-Err.refusal)

pub bounds-message-0 : goal.bounds-message-0
bounds-message-0 c =
    (form-passed _ (open-passed _ _ _ _ (sym c.in_default.ensures)).form).0

pub receive_request-requires : goal.receive_request-requires
receive_request-requires c =
    let q = open-passed _ _ _ _ (sym c.in_default.ensures) in
    (c.number.ensures.1, q.size, request-form _ q.form (sym c.is_request.ensures ∙ c.if-is_request.true))

pub returns-then-is_request : goal.returns-then-is_request
unfolding open_of
returns-then-is_request c =
    let a = c.args in
    simp (sym c.in_default.ensures, sym c.is_request.ensures ∙ c.if-is_request.true)
    (c.receive_request.ensures _ ∙ ap (λ (d : ℕ). requested a.self d a.message.now a.out.now) c.number.ensures.0)

pub receive-requires : goal.receive-requires
receive-requires c =
    let q = open-passed _ _ _ _ (sym c.in_default.ensures) in
    let r = sym c.is_request.ensures ∙ c.if-is_request.false in
    let l = message-form _ q.form r in
    (c.number-2.ensures.1, q.size, omega arith, q.room r)

pub returns : goal.returns
unfolding open_of
returns c =
    let a = c.args in
    simp (sym c.in_default.ensures, sym c.is_request.ensures ∙ c.if-is_request.false)
    (c.receive.ensures ∙ ap (λ (d : ℕ). opened a.self d a.message.now a.out.now) c.number-2.ensures.0)
