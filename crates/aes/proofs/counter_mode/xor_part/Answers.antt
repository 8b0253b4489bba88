use Rattle.std.proofs.Common.{◌≡◌, ℕ, ◌-◌, take, sym, refl, ap, ◌∙◌, arith, length-set}
use Rattle.aes.proofs.Over.{over, over-begin, over-next, parts-of}
use Rattle.aes.proofs.counter_mode.xor_part.Goals as goal

pub loop-q-init : goal.loop-q-init
loop-q-init c =
    let a = c.args in (refl, over-begin a.m.now a.k a.i)

pub loop-q-preserved : goal.loop-q-preserved
loop-q-preserved c =
    let a = c.args in
    (simp length-set (omega arith), over-next a.m.now a.k a.i c.loop-q.m c.loop-q.q (omega arith) (omega arith) c.loop-q.invariant.1)

pub returns : goal.returns
returns c =
    let a = c.args in
    let e : c.loop-q.q ≡ a.end - a.i = omega arith in
    c.loop-q.invariant.1 ∙
    ap (λ (n : ℕ). over a.m.now a.i (take n a.k)) e ∙
    sym (parts-of a.m.now a.k a.i (a.end - a.i) a.end (omega arith) (omega arith) (omega arith))
