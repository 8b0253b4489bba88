use Rattle.hex_eps.specs.Answers as answers
use Rattle.hex_eps.proofs.Laws as laws
use Rattle.hex_eps.proofs.calls.restore.Goals as goal

pub returns : goal.returns
returns c =
    laws.answered answers.change_answer _ _ _ _ _ _ c.told.ensures.0 c.told.ensures.1 c.restore.ensures
