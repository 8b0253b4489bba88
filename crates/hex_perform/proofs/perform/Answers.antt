use Rattle.hex_perform.proofs.Laws as laws
use Rattle.hex_perform.proofs.perform.Goals as goal

pub returns-in-None : goal.returns-in-None
returns-in-None c =
    laws.held c.args.line _ _ _ _ _ _ c.in-None.is (rw c.number.ensures)

pub returns-in-Some : goal.returns-in-Some
returns-in-Some c =
    laws.held c.args.line _ _ _ _ _ _ c.in-Some.is c.call.ensures
