use Rattle.hex_eps_parse.specs.Lines.{restore_line}
use Rattle.hex_eps_parse.proofs.heads.restore.Goals as goal

pub returns : goal.returns
unfolding restore_line
returns c =
    simp (c.selected.ensures, c.count-2.ensures, c.count.ensures, c.octet-2.ensures, c.octet.ensures)
