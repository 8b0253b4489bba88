use Rattle.std.proofs.Common.{◌≡◌, ◌∙◌, arith, sym, rules}
use Rattle.snow3g.proofs.Linear.{no_bits, all-bits, turned-left}
use Rattle.snow3g.proofs.mul64.Factor.times.Goals as goal

pub loop-turn-init : goal.loop-turn-init
loop-turn-init c = sym (no_bits _ c.args.v (search rules))

pub loop-turn-preserved : goal.loop-turn-preserved
loop-turn-preserved c =
    rw c.shift4.ensures
    (turned-left c.args.self.now.p c.args.v c.loop-turn.turn c.loop-turn.sum c.args.self.now.products c.loop-turn-test.true (search rules) c.args.self.now.known c.loop-turn.invariant)

pub returns : goal.returns
returns c =
    let e : c.loop-turn.turn ≡ 16 = omega arith in
    rw e at c.loop-turn.invariant ∙ all-bits _ c.args.v
