use mathlib.Core.Path.{sym}
use Prim.Native.Nat.{◌*◌}
use lib.ListN.{length}
use Rattle.hex_lines.proofs.Laws as hex
use native.Mathlib.Omega.{arith}
use Rattle.hex_print.proofs.Laws as laws
use Rattle.hex_print.proofs.words.octets.Goals as goal

pub returns-then-octets-eq0 : goal.returns-then-octets-eq0
returns-then-octets-eq0 c =
    (rw (laws.no-octets c.args.octets.now c.if-octets-eq0.true) c.text.ensures.0, omega (arith, c.text.ensures.1))

pub returns : goal.returns
returns c =
    (rw (laws.some-octets c.args.octets.now c.if-octets-eq0.false) (laws.behind c.text-next.ensures.0 (laws.pasted {n = length c.args.octets.now * 2} c.put_octets.ensures.0 c.put_octets.ensures.1 (sym (hex.text-length c.args.octets.now)) (omega arith))), omega (arith, c.put_octets.ensures.0, c.text-next.ensures.1))
