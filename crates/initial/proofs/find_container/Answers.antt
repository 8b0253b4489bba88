use Rattle.initial.proofs.Within.{walked}
use Rattle.initial.proofs.find_container.Goals as goal

pub returns-clause-within : goal.returns-clause-within
returns-clause-within c =
    walked c.args.message.now _ _ c.walk.result c.walk.ensures
