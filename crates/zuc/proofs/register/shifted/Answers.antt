use Rattle.zuc.specs.Register.{shift, feedback}
use Rattle.zuc.proofs.Folds.{cell-sum}
use Rattle.zuc.proofs.register.shifted.Goals as goal

pub returns : goal.returns
unfolding shift feedback
returns c =
    rw (c.shifted.ensures, c.new_cell.ensures, cell-sum)
