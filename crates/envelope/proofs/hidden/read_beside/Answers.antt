use mathlib.Core.Path.{sym, ◌∙◌}
use Rattle.initial.specs.Inside.{hidden_of}
use Rattle.envelope.proofs.Insides.{asked_is}
use Rattle.envelope.specs.Initial.{beside_of}
use Rattle.envelope.proofs.hidden.read_beside.Goals as goal

pub read_inside-requires : goal.read_inside-requires
read_inside-requires c =
    let a = asked_is _ _ _ (sym c.is_asked.ensures ∙ c.if-is_asked.true) in
    (a.2, c.requires a.0 a.1)

pub returns-then-is_asked : goal.returns-then-is_asked
unfolding beside_of hidden_of
returns-then-is_asked c =
    let e = sym c.is_asked.ensures ∙ c.if-is_asked.true in
    record { answer = simp e c.read_inside.ensures.answer; wrote = simp e c.read_inside.ensures.wrote }

pub returns : goal.returns
unfolding beside_of hidden_of
returns c =
    let e = sym c.is_asked.ensures ∙ c.if-is_asked.false in record { answer = simp e; wrote = simp e }
