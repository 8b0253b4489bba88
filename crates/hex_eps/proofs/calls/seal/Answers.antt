use Rattle.hex_eps.specs.Answers as answers
use Rattle.hex_eps.proofs.Laws as laws
use Rattle.hex_eps.proofs.calls.seal.Goals as goal

pub returns : goal.returns
returns c =
    rw (← c.direction_of-d.ensures) (laws.answered answers.use_answer _ _ _ _ _ _ c.told.ensures.0 c.told.ensures.1 c.seal.ensures)
