use native.Mathlib.Omega.{arith}
use borrow.Author.Rules.{rules}
use Rattle.hex_parse.proofs.Laws as laws
use Rattle.hex_parse.proofs.form.begins.Goals as goal

-- At each turn, the rest of the text begins as the rest of the form says exactly when the whole does.

pub returns-then-text-i : goal.returns-then-text-i
returns-then-text-i c =
    laws.short _ _ c.loop-i.i (omega arith) (omega arith) c.loop-i.invariant.1

pub returns-then-not-may_stand : goal.returns-then-not-may_stand
returns-then-not-may_stand c =
    laws.stop _ _ _ (omega arith) (omega arith) c.may_stand.result c.may_stand.ensures c.if-not-may_stand.true (search rules)

pub loop-i-preserved : goal.loop-i-preserved
loop-i-preserved c = (
  omega arith,
  laws.go _ _ _ (omega arith) (omega arith) c.may_stand.result c.may_stand.ensures c.if-not-may_stand.false (search rules),
)

pub returns : goal.returns
returns c =
    laws.end _ _ c.loop-i.i (omega arith) c.loop-i.invariant.1
