use mathlib.Core.Path.{sym}
use native.Mathlib.Omega.{arith}
use Rattle.hex_lines.proofs.Laws as laws
use Rattle.hex_lines.proofs.read.is_digit.Goals as goal

pub returns-in-48-to-57 : goal.returns-in-48-to-57
returns-in-48-to-57 c =
    sym (laws.decimal _ (omega arith) (omega arith))

pub returns-in-48-to-57-2 : goal.returns-in-48-to-57-2
returns-in-48-to-57-2 c =
    sym (laws.letter _ (omega arith) (omega arith))

pub returns-in_default : goal.returns-in_default
returns-in_default c =
    sym (laws.below _ (omega arith))

pub returns-in_default-2 : goal.returns-in_default-2
returns-in_default-2 c =
    sym (laws.between _ (omega arith) (omega arith))

pub returns-in_default-3 : goal.returns-in_default-3
returns-in_default-3 c =
    sym (laws.above _ (omega arith))
