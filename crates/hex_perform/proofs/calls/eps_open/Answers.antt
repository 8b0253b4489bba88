use Rattle.hex_perform.specs.Answers as answers
use Rattle.hex_perform.proofs.Laws as laws
use Rattle.hex_perform.proofs.calls.eps_open.Goals as goal

pub returns : goal.returns
returns c =
    laws.answered answers.eps_answer _ _ _ _ _ _ c.told.ensures.0 c.told.ensures.1 c.open_eps.ensures
