use Rattle.hex_parse.specs.Lines.{line_of, octets_in}
use Rattle.hex_parse.proofs.parse.Goals as goal

pub returns : goal.returns
unfolding line_of octets_in
returns c =
    rw (← c.head.ensures, ← c.bad.ensures) c.ended.ensures
