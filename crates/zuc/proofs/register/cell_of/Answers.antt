use Rattle.std.proofs.Common.{ap, ◌∙◌}
use Rattle.zuc.proofs.Folds.{fold, cell-fits, cell-zero, cell_other}
use Rattle.zuc.proofs.register.cell_of.Goals as goal

pub overflow_cast-result : goal.overflow_cast-result
overflow_cast-result c =
    record { fits = cell-fits _ _ (c.fold-f.ensures ∙ ap fold c.fold.ensures) c.requires }

pub returns-then-f-eq0 : goal.returns-then-f-eq0
returns-then-f-eq0 c =
    cell-zero _ _ (c.fold-f.ensures ∙ ap fold c.fold.ensures) c.if-f-eq0.true

pub returns-else-f-eq0 : goal.returns-else-f-eq0
returns-else-f-eq0 c =
    cell_other _ _ (c.fold-f.ensures ∙ ap fold c.fold.ensures) c.requires c.if-f-eq0.false
