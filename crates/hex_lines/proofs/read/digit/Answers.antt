use mathlib.Core.Path.{◌∙◌}
use native.Mathlib.Omega.{arith}
use Rattle.hex_lines.proofs.Laws as laws
use Rattle.hex_lines.proofs.read.digit.Goals as goal

pub returns-in-48-to-57 : goal.returns-in-48-to-57
returns-in-48-to-57 c =
    (laws.decimal-value _ (omega arith) (omega arith), omega arith)

pub returns-in-97-to-102 : goal.returns-in-97-to-102
returns-in-97-to-102 c =
    (omega arith ∙ laws.letter-value _ (omega arith) (omega arith), omega arith)

pub returns-in_default : goal.returns-in_default
returns-in_default c =
    (laws.no_value _ (laws.below _ (omega arith)), omega arith)

pub returns-in_default-2 : goal.returns-in_default-2
returns-in_default-2 c =
    (laws.no_value _ (laws.between _ (omega arith) (omega arith)), omega arith)

pub returns-in_default-3 : goal.returns-in_default-3
returns-in_default-3 c =
    (laws.no_value _ (laws.above _ (omega arith)), omega arith)
