use Rattle.std.proofs.Common.{◌≡◌, ℕ, ◌*◌, ◌/◌, ◌<◌, List, get_or, refl, ap, ◌∙◌, arith}
use Rattle.aes.specs.Counter.{counter}
use Rattle.aes.proofs.counter_mode.ctr_to.Invariants.{sofar}
use Rattle.aes.proofs.counter_mode.ctr_to.Goals as goal

pub loop-i-init : goal.loop-i-init
loop-i-init c =
    (omega arith, refl, λ h. omega arith, λ l e. e)

pub ctr_run-requires : goal.ctr_run-requires
ctr_run-requires c =
    let a = c.args in
    let inside : c.loop-i.i < a.end = omega arith in
    let whole = c.loop-i.invariant.2 inside in
    let on = c.run_end-next.ensures.2 inside in
    let last : get_or c.counter_block-b.result 15 0 ≡ get_or (counter a.t (c.loop-i.i / 16)) 15 0 =
    ap (λ (z : List ℕ). get_or z 15 0) c.counter_block-b.ensures in (
      rw c.counter_block-b.ensures at c.shared-g.ensures,
      omega (arith, on),
      omega arith,
      omega (arith, whole, last),
    )

pub loop-i-smaller : goal.loop-i-smaller
loop-i-smaller c =
    let inside : c.loop-i.i < c.args.end = omega arith in
    let on = c.run_end-next.ensures.2 inside in omega (arith, on)

pub loop-i-preserved : goal.loop-i-preserved
loop-i-preserved c =
    let a = c.args in
    let inside : c.loop-i.i < a.end = omega arith in
    let whole = c.loop-i.invariant.2 inside in
    let same : c.loop-i.i ≡ c.loop-i.i / 16 * 16 = omega (arith, whole) in (
      omega arith,
      omega arith,
      c.run_end-next.ensures.4 whole,
      λ o e. c.ctr_run.ensures o (c.loop-i.invariant.3 o e ∙ ap (sofar a.w.now a.t o) same),
    )

pub returns : goal.returns
returns c =
    let a = c.args in
    let done : c.loop-i.i ≡ a.end = omega arith in λ o e. c.loop-i.invariant.3 o e ∙ ap (sofar a.w.now a.t o) done
