use Rattle.hex_eps.specs.Lines.{answer_text}
use native.Mathlib.Omega.{arith}
use Rattle.hex_eps.proofs.print.answer_text.Goals as goal

pub returns-in-Bad : goal.returns-in-Bad
unfolding answer_text
returns-in-Bad c =
    (rw c.in-Bad.is c.text.ensures.0, omega (arith, c.text.ensures.1))

pub returns-in-Done : goal.returns-in-Done
unfolding answer_text
returns-in-Done c =
    (rw c.in-Done.is c.text-in-Done.ensures.0, omega (arith, c.text-in-Done.ensures.1))

pub returns-in-Shown : goal.returns-in-Shown
unfolding answer_text
returns-in-Shown c =
    (rw c.in-Shown.is c.shown.ensures.0, omega (arith, c.shown.ensures.1))

pub returns-in-Refused : goal.returns-in-Refused
unfolding answer_text
returns-in-Refused c =
    (rw c.in-Refused.is c.refusal.ensures.0, omega (arith, c.refusal.ensures.1))

pub returns-in-Used : goal.returns-in-Used
unfolding answer_text
returns-in-Used c =
    (rw c.in-Used.is c.put_used.ensures.0, omega (arith, c.put_used.ensures.1))

pub returns-in-Opened : goal.returns-in-Opened
unfolding answer_text
returns-in-Opened c =
    (rw c.in-Opened.is c.put_opened.ensures.0, omega (arith, c.put_opened.ensures.1))

pub returns-in-Request : goal.returns-in-Request
unfolding answer_text
returns-in-Request c =
    (rw c.in-Request.is c.put_request.ensures.0, omega (arith, c.put_request.ensures.1))
