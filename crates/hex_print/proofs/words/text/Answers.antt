use mathlib.Core.Path.{refl}
use native.Mathlib.Omega.{arith}
use Rattle.hex_print.proofs.Laws as laws
use Rattle.hex_print.proofs.words.text.Goals as goal

pub returns : goal.returns
returns c =
    (laws.pasted {t = c.args.text.now} {at = c.args.at} c.put_text.ensures.0 c.put_text.ensures.1 refl (omega arith), c.put_text.ensures.0)
