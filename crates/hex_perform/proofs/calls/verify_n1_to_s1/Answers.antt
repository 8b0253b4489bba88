use Rattle.hex_perform.specs.Answers as answers
use Rattle.hex_perform.proofs.Laws as laws
use Rattle.hex_perform.proofs.calls.verify_n1_to_s1.Goals as goal

pub returns : goal.returns
returns c =
    laws.answered answers.verify_answer _ _ _ _ _ _ c.told.ensures.0 c.told.ensures.1 c.verify_n1_to_s1_container.ensures
