use mathlib.Core.Path.{refl}
use Rattle.hex_print.specs.Words.{decimal_word}
use native.Mathlib.Omega.{arith}
use Rattle.hex_print.proofs.Laws as laws
use Rattle.hex_print.proofs.words.decimal.Goals as goal

pub returns : goal.returns
unfolding decimal_word
returns c =
    (laws.behind c.text-next.ensures.0 (laws.pasted c.put_decimal.ensures.0 c.put_decimal.ensures.1 refl (omega arith)), omega (arith, c.put_decimal.ensures.0, c.text-next.ensures.1, laws.decimal-short c.args.n))
