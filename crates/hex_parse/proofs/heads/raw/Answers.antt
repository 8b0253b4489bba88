use Rattle.hex_parse.specs.Lines.{raw_line}
use Rattle.hex_parse.proofs.heads.raw.Goals as goal

pub returns : goal.returns
unfolding raw_line
returns c =
    simp (c.selected.ensures, c.bits-4.ensures, c.bits-3.ensures, c.bits-2.ensures, c.bits.ensures, c.count-4.ensures, c.count-3.ensures, c.count-2.ensures, c.count.ensures, c.octet-3.ensures, c.octet-2.ensures, c.octet.ensures)
