use Rattle.hex_perform.proofs.Laws as laws
use Rattle.hex_perform.proofs.calls.across.Goals as goal

pub returns : goal.returns
returns c =
    rw (← c.direction_of-d.ensures, ← c.connection_of-k.ensures) (laws.answered-across _ _ _ _ _ _ _ _ c.told.ensures.0 c.told.ensures.1 c.open_across.ensures)
