use Rattle.zuc.proofs.register.new_cell.Goals as goal

pub returns : goal.returns
returns c =
    rw (c.cell_of.ensures, c.weighed.ensures.0)
