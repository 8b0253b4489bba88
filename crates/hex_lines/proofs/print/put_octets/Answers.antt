use Prim.Native.Nat.{◌*◌}
use mathlib.Core.Path.{◌≡◌, sym, ◌∙◌}
use native.Mathlib.Omega.{arith}
use lib.ListN.{length-set, length}
use lib.Seq.{paste-zero}
use Rattle.hex_lines.specs.Hex.{text_of}
use Rattle.hex_lines.proofs.Laws as laws
use Rattle.hex_lines.proofs.print.put_octets.Goals as goal

-- At each turn, the characters of the first i octets are in place.

pub loop-i-init : goal.loop-i-init
loop-i-init c =
    (omega arith, paste-zero c.args.out.now c.args.at (text_of c.args.octets.now))

pub char_of-requires : goal.char_of-requires
char_of-requires c =
    omega arith

pub bounds-out-j : goal.bounds-out-j
bounds-out-j c =
    omega (
      arith,
      laws.put-length c.args.out.now (text_of c.args.octets.now)
          c.loop-i.out c.args.at (c.loop-i.i * 2) 0 c.loop-i.invariant.1
          (omega arith) (omega (arith, laws.text-length c.args.octets.now)),
    )

pub bounds-out-j-in-loop-i : goal.bounds-out-j-in-loop-i
bounds-out-j-in-loop-i c =
    simp length-set (omega (
      arith,
      laws.put-length c.args.out.now (text_of c.args.octets.now)
          c.loop-i.out c.args.at (c.loop-i.i
          * 2) 0 c.loop-i.invariant.1 (omega arith) (omega (arith, laws.text-length c.args.octets.now)),
    ))

pub loop-i-preserved : goal.loop-i-preserved
loop-i-preserved c = (
  omega arith,
  laws.put_two c.args.out.now (text_of c.args.octets.now)
      c.loop-i.out c.args.at c.loop-i.i
      _ _ c.loop-i.invariant.1 (omega arith) (omega (arith, laws.text-length c.args.octets.now))
      (c.char_of.ensures ∙ sym (laws.high-at _ c.loop-i.i (omega arith))) (c.char_of-in-loop-i.ensures
      ∙ sym (laws.low-at _ c.loop-i.i (omega arith))),
)

pub shape_of-out : goal.shape_of-out
shape_of-out c =
    laws.put-length c.args.out.now (text_of c.args.octets.now) c.loop-i.out
    c.args.at (c.loop-i.i * 2) 0 c.loop-i.invariant.1 (omega arith) (omega (
      arith,
      laws.text-length
          c.args.octets.now,
    ))

pub returns : goal.returns
returns c =
    let e : c.loop-i.i ≡ length c.args.octets.now = omega arith in (omega arith, rw (← e) c.loop-i.invariant.1)
