use Prim.Native.Nat.{◌/◌}
use mathlib.Core.Path.{◌≡◌, sym, ◌∙◌}
use native.Mathlib.Omega.{arith}
use lib.ListN.{length}
use lib.Seq.{paste-zero}
use Rattle.hex_lines.specs.Hex.{octets_of}
use Rattle.hex_lines.proofs.Laws as laws
use Rattle.hex_lines.proofs.read.spread.Goals as goal

-- At each turn, the first i octets are in place.

pub loop-i-init : goal.loop-i-init
loop-i-init c =
    (omega arith, paste-zero c.args.out.now 0 (octets_of c.args.text.now))

pub bounds-out-i : goal.bounds-out-i
bounds-out-i c =
    omega (
      arith,
      laws.put-length c.args.out.now (octets_of c.args.text.now)
          c.loop-i.out 0 c.loop-i.i 0 c.loop-i.invariant.1
          (omega arith) (omega (arith, laws.octets-length c.args.text.now)),
    )

pub loop-i-preserved : goal.loop-i-preserved
loop-i-preserved c = (
  omega arith,
  laws.put_front c.args.out.now (octets_of c.args.text.now)
      _ c.loop-i.i _ c.loop-i.invariant.1 (omega arith) (omega (
        arith,
        laws.octets-length
            c.args.text.now,
      )) (c.octet.ensures ∙ sym (laws.octet-at _ c.loop-i.i
      (omega arith))),
)

pub shape_of-out : goal.shape_of-out
shape_of-out c =
    laws.put-length c.args.out.now (octets_of c.args.text.now) _ 0 c.loop-i.i
    0 c.loop-i.invariant.1 (omega arith) (omega (arith, laws.octets-length c.args.text.now))

pub returns : goal.returns
returns c =
    let e : c.loop-i.i ≡ length c.args.text.now / 2 = omega arith in rw (← e) c.loop-i.invariant.1
