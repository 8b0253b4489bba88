use Prim.Native.Nat.{◌*◌}
use Rattle.hex_print.specs.Words.{word}
use native.Mathlib.Omega.{arith}
use Rattle.hex_print.proofs.Laws as laws
use Rattle.hex_print.proofs.words.word.Goals as goal

pub returns : goal.returns
unfolding word
returns c =
    (laws.behind c.text-next.ensures.0 (laws.pasted {n = c.args.octets * 2} c.put_number.ensures.0 c.put_number.ensures.1 (laws.number-length c.args.n c.args.octets c.requires.0) (omega arith)), omega (arith, c.put_number.ensures.0, c.text-next.ensures.1))
