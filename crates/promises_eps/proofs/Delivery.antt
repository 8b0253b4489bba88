-- Demands 2 and 3 together.
use Prim.Native.Nat.{ℕ, ◌<◌}
use mathlib.Core.Path.{sym, subst}
use Rattle.count.specs.Rule.{exhausted}
use Rattle.promises_eps.specs.Calls.{seal_message, seal_request, open_message, gives, context_after}
use Rattle.promises_eps.specs.Words.{written, TakenAs}
use Rattle.promises_eps.specs.Delivery.{Delivery}
use Rattle.promises_eps.proofs.Demand2.{accepts, writes, returns}
use Rattle.promises_eps.proofs.Demand3.{keeps}

pub delivery : Delivery
delivery z x begins ks never same =
    let d3 = keeps x begins ks never in
    let now = context_after gives x ks in
    record {
      seal = λ t d inner out room h some fit due.
          let s = gives (seal_message t d inner out) z in
          let w = (writes z).seal t d inner out h in
          let r = ((accepts z).seal t d inner out).0 h in
          let below : s.values.count < exhausted = subst (λ (c : ℕ). c < exhausted) (sym w.0.1) r.5 in
          let o = d3.opens d z.core t s.values.count inner room same r.1 r.2 below some r.3 fit in
          let taken : TakenAs (gives (open_message d (written s) room) now) s.values.count inner room = rw w.1 (o.exactly.1 (rw w.1 at due)) in
          let u = (returns z now same).seal t d inner out room h (taken.uses, taken.count) in (u.0, taken);
      request = λ i out room h ahead.
          let s = gives (seal_request i out) z in
          let w = (writes z).request i out h in
          let r = ((accepts z).request i out).0 h in
          let below : s.values.count < exhausted = subst (λ (c : ℕ). c < exhausted) (sym w.0.1) r.3 in
          rw w.1 ((d3.requests z.core i s.values.count room same r.1 below).1 ahead);
    }
