use mathlib.Core.Path.{sym, ◌∙◌}
use Rattle.nas_core.specs.Verify.{advanced}
use borrow.Author.Rules.{rules}
use Rattle.nas_core.proofs.Core.advance.Goals as goal

pub returns-then-wraps : goal.returns-then-wraps
unfolding advanced
returns-then-wraps c =
    simp (c.go_round.ensures, sym c.wraps.ensures ∙ c.if-wraps.true)

pub advance-requires : goal.advance-requires
advance-requires c =
    (c.requires.2 (sym c.wraps.ensures ∙ c.if-wraps.false), search rules, search rules)

pub returns : goal.returns
unfolding advanced
returns c =
    simp (c.advance.ensures, sym c.wraps.ensures ∙ c.if-wraps.false)
