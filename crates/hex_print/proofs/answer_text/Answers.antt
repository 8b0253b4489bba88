use Rattle.hex_print.specs.Lines.{answer_text}
use native.Mathlib.Omega.{arith}
use Rattle.hex_print.proofs.answer_text.Goals as goal

pub returns-in-Bad : goal.returns-in-Bad
unfolding answer_text
returns-in-Bad c =
    (rw c.in-Bad.is c.text.ensures.0, omega (arith, c.text.ensures.1))

pub returns-in-Done : goal.returns-in-Done
unfolding answer_text
returns-in-Done c =
    (rw c.in-Done.is c.text-in-Done.ensures.0, omega (arith, c.text-in-Done.ensures.1))

pub returns-in-Shown : goal.returns-in-Shown
unfolding answer_text
returns-in-Shown c =
    (rw c.in-Shown.is c.shown.ensures.0, omega (arith, c.shown.ensures.1))

pub returns-in-Refused : goal.returns-in-Refused
unfolding answer_text
returns-in-Refused c =
    (rw c.in-Refused.is c.refusal.ensures.0, omega (arith, c.refusal.ensures.1))

pub returns-in-Used : goal.returns-in-Used
unfolding answer_text
returns-in-Used c =
    (rw c.in-Used.is c.put_used.ensures.0, omega (arith, c.put_used.ensures.1))

pub returns-in-Made : goal.returns-in-Made
unfolding answer_text
returns-in-Made c =
    (rw c.in-Made.is c.put_made.ensures.0, omega (arith, c.put_made.ensures.1))

pub returns-in-Opened : goal.returns-in-Opened
unfolding answer_text
returns-in-Opened c =
    (rw c.in-Opened.is c.put_opened.ensures.0, omega (arith, c.put_opened.ensures.1))

pub returns-in-Content : goal.returns-in-Content
unfolding answer_text
returns-in-Content c =
    (rw c.in-Content.is c.put_content.ensures.0, omega (arith, c.put_content.ensures.1))

pub returns-in-EpsContent : goal.returns-in-EpsContent
unfolding answer_text
returns-in-EpsContent c =
    (rw c.in-EpsContent.is c.put_eps_content.ensures.0, omega (arith, c.put_eps_content.ensures.1))

pub returns-in-Received : goal.returns-in-Received
unfolding answer_text
returns-in-Received c =
    (rw c.in-Received.is c.put_received.ensures.0, omega (arith, c.put_received.ensures.1))

pub returns-in-OpenedOn : goal.returns-in-OpenedOn
unfolding answer_text
returns-in-OpenedOn c =
    (rw c.in-OpenedOn.is c.put_opened_on.ensures.0, omega (arith, c.put_opened_on.ensures.1))

pub returns-in-ContentOn : goal.returns-in-ContentOn
unfolding answer_text
returns-in-ContentOn c =
    (rw c.in-ContentOn.is c.put_content_on.ensures.0, omega (arith, c.put_content_on.ensures.1))
