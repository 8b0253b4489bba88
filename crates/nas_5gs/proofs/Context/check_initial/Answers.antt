use Rattle.std.proofs.Common.{◌≡◌, ℕ, ◌<◌, true, List, length, ltb, sym, ◌∙◌, arith}
use borrow.Author.Tests.{lt-ltb}
use Rattle.nas_core.specs.Refusals.{limit}
use Rattle.initial.specs.Outer.{outer_length}
use Rattle.initial.proofs.Laws.{laws}
use Rattle.nas_5gs.specs.Initial.{initial_refusal}
use Rattle.nas_5gs.proofs.Context.check_initial.Goals as goal

-- what goes out is no shorter
longer : (w : List ℕ) → limit < length w → ltb limit (outer_length w) ≡ true
longer w h = lt-ltb limit (outer_length w) (omega (arith, (laws.out w w).no-shorter))

pub returns-then-whole-gt-LIMIT : goal.returns-then-whole-gt-LIMIT
unfolding initial_refusal
returns-then-whole-gt-LIMIT c =
    simp (sym c.in_ok-check.ensures, sym c.is_initial.ensures ∙ c.if-not-is_initial.false, sym c.is_hideable.ensures ∙ c.if-not-is_hideable.false, longer c.args.whole.now c.if-whole-gt-LIMIT.true)
