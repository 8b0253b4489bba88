use borrow.Author.Tests.{ne_eqb}
use Rattle.hex_parse.specs.Form.{may_stand}
use borrow.Author.Rules.{rules}
use Rattle.hex_parse.proofs.form.may_stand.Goals as goal

pub returns-in-88 : goal.returns-in-88
unfolding may_stand
returns-in-88 c =
    rw c.in-88.is c.is_digit.ensures

pub returns-in-83 : goal.returns-in-83
unfolding may_stand
returns-in-83 c =
    rw c.in-83.is c.is_between.ensures

pub returns-in-68 : goal.returns-in-68
unfolding may_stand
returns-in-68 c =
    rw c.in-68.is c.is_between-in-68.ensures

pub returns-in-67 : goal.returns-in-67
unfolding may_stand
returns-in-67 c =
    rw c.in-67.is c.is_between-in-67.ensures

pub returns-in_default : goal.returns-in_default
unfolding may_stand
returns-in_default c =
    search (rules, ne_eqb)
