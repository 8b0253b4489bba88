use Rattle.hex_perform.specs.Answers as answers
use Rattle.hex_perform.proofs.Laws as laws
use Rattle.hex_perform.proofs.calls.initial.Goals as goal

pub returns : goal.returns
returns c =
    rw (← c.connection_of-k.ensures) (laws.answered answers.use_answer _ _ _ _ _ _ c.told.ensures.0 c.told.ensures.1 c.initial.ensures)
