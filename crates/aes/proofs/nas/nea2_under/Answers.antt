use Rattle.aes.proofs.nas.nea2_under.Goals as goal

pub returns : goal.returns
returns c =
    rw (c.ctr.ensures, c.first_counter.ensures)
