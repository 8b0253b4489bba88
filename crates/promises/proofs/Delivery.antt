-- Demands 2 and 3 together.
use Prim.Native.Nat.{ℕ, ◌≤◌, ◌<◌}
use mathlib.Core.Path.{◌≡◌, refl, sym, ◌∙◌, subst}
use mathlib.Core.Bool.{false}
use mathlib.Core.Logic.{inl}
use mathlib.Core.List.{List, [], ◌∷◌}
use native.Mathlib.Omega.{arith}
use lib.ListN.{length, get_or}
use lib.Dec.{ltb}
use borrow.Author.Tests.{ltb-false}
use Rattle.count.specs.Rule.{exhausted}
use Rattle.refusals.specs.Order.{◌when◌, first}
use Rattle.refusals.proofs.Laws.{passed, off}
use Rattle.look.specs.Look.{is_mobility, is_session, way_in, not_known}
use Rattle.nas_core.specs.Refusals.{limit}
use Rattle.nas_5gs.specs.Places.{bearer_no, direction_no, place_of}
use Rattle.nas_core.specs.declared.Direction.TheVariants.{Uplink}
use Rattle.nas_5gs.specs.Seal.{seal_refusals, seal_refusal, opaque_refusals, opaque_refusal}
use Rattle.nas_5gs.specs.Initial.{initial_refusals, initial_refusal}
use Rattle.nas_5gs.proofs.Passed.{initial-whole}
use Rattle.initial.specs.Messages.{mandatory_length}
use Rattle.initial.specs.Outer.{outer_length}
use Rattle.initial.proofs.Laws.{laws}
use Rattle.envelope.specs.Initial.{outgoing, initial_envelope}
use Rattle.envelope.proofs.Lengths.{outgoing-length}
use Rattle.nas_5gs.specs.Eps.{not_eps, seal_eps_refusals, seal_eps_refusal}
use Rattle.promises.specs.Calls.{seal5gs, seal_opaque, seal_initial, open5gs, seal_eps, open_eps, gives, context_after}
use Rattle.promises.specs.Words.{written, TakenAs}
use Rattle.promises.specs.Delivery.{Delivery}
use Rattle.promises.proofs.Soundness.{next-there}
use Rattle.promises.proofs.Demand1.{opened-passed}
use Rattle.promises.proofs.Demand2.{writes, returns, seal-type, seal-passed, opaque-type, eps-content}
use Rattle.promises.proofs.Demand3.{keeps}

-- a message that passes the look is not empty
not-empty : (m : List ℕ) → not_known m ≡ false → 1 ≤ length m
unfolding not_known way_in is_mobility is_session
not-empty [] e = let z : ◌≡◌ {A = ℕ} 0 1 = cc in absurd (omega arith)
not-empty (a ∷ m) e = omega arith

not-empty-eps : (m : List ℕ) → not_eps m ≡ false → 1 ≤ length m
unfolding not_eps
not-empty-eps [] e = let z : ◌≡◌ {A = ℕ} 0 1 = cc in absurd (omega arith)
not-empty-eps (a ∷ m) e = omega arith

-- an initial message has six octets at least, and so has what goes out
pub some-octets : (w : List ℕ) → mandatory_length w ≤ length w → 1 ≤ outer_length w
unfolding mandatory_length
some-octets w h = omega (arith, (laws.out w w).no-shorter)

within-limit : (l : List ℕ) (i n : ℕ) → first l ≡ 0 → get_or l i 0 ≡ 4 when (ltb limit n) → n ≤ limit
within-limit l i n e q = ltb-false limit n (off 4 (ltb limit n) (omega arith) (sym q ∙ passed l e i))

pub delivery : Delivery
unfolding seal_refusal opaque_refusal initial_refusal initial_envelope seal_eps_refusal
delivery z x begins ks never same =
    let d3 = keeps x begins ks never in
    let now = context_after gives x ks in
    record {
      seal = λ t d k inner out room room2 h fit fit2 due.
          let s = gives (seal5gs t d k inner out) z in
          let w = (writes z).seal t d k inner out h in
          let r = seal-type z t d k inner out h in
          let e = opened-passed (seal5gs t d k inner out) z (inl h) in
          let below : s.values.count < exhausted = subst (λ (c : ℕ). c < exhausted) (sym w.0.1) (next-there (seal5gs t d k inner out) z e) in
          let some = not-empty inner (off 9 (not_known inner) (omega arith) (seal-passed z t d k inner out h 1)) in
          let low = within-limit (seal_refusals z t (place_of d k) (direction_no d) inner (length out)) 5 (length inner) e refl in
          let o = d3.opens d k z.core t s.values.count inner room room2 same r.0 r.1 below some low fit fit2 in
          let taken : TakenAs (gives (open5gs d k (written s) room room2) now) s.values.count inner room =
          rw w.1 (o.exactly.1 (rw w.1 at due)) in
          let u = (returns z now same).seal t d k inner out room room2 h (taken.uses, taken.count) in (taken, u.3);
      initial = λ k w out room room2 h fit fit2 due.
          let s = gives (seal_initial k w out) z in
          let v = (writes z).initial k w out h in
          let c = s.values.count in
          let e = opened-passed (seal_initial k w out) z (inl h) in
          let gone = outgoing z.core c (bearer_no k) w in
          let whole = initial-whole z (place_of Uplink k) w (length out) e in
          let long = outgoing-length z.core c (bearer_no k) w whole in
          let below : c < exhausted = subst (λ (c : ℕ). c < exhausted) (sym v.0.1) (next-there (seal_initial k w out) z e) in
          let low = within-limit (initial_refusals z (place_of Uplink k) w (length out)) 3 (outer_length w) e refl in
          let some = some-octets w whole in
          let o = d3.opens Uplink k z.core 1 c gone room room2 same (omega arith) (omega arith) below (omega arith) (omega arith) (omega arith) (λ a b. omega arith) in
          let taken : TakenAs (gives (open5gs Uplink k (written s) room room2) now) c gone room = rw v.1 (o.exactly.1 (rw v.1 at due)) in
          let u = (returns z now same).initial k w out room room2 h (taken.uses, taken.count) in
          (u.0, (taken.uses, taken.count), u.3);
      opaque = λ t d k inner out room room2 h some fit fit2 due.
          let s = gives (seal_opaque t d k inner out) z in
          let w = (writes z).opaque t d k inner out h in
          let r = opaque-type z t d k inner out h in
          let e = opened-passed (seal_opaque t d k inner out) z (inl h) in
          let below : s.values.count < exhausted = subst (λ (c : ℕ). c < exhausted) (sym w.0.1) (next-there (seal_opaque t d k inner out) z e) in
          let low = within-limit (opaque_refusals z t (place_of d k) inner (length out)) 2 (length inner) e refl in
          let o = d3.opens d k z.core t s.values.count inner room room2 same r.0 r.1 below some low fit fit2 in
          rw w.1 (o.exactly.1 (rw w.1 at due));
      eps = λ inner out room h fit due.
          let s = gives (seal_eps inner out) z in
          let w = (writes z).eps inner out h in
          let e = opened-passed (seal_eps inner out) z (inl h) in
          let below : s.values.count < exhausted = subst (λ (c : ℕ). c < exhausted) (sym w.0.1) (next-there (seal_eps inner out) z e) in
          let some = not-empty-eps inner (eps-content z inner out h) in
          let low = within-limit (seal_eps_refusals z inner (length out)) 2 (length inner) e refl in
          let o = d3.opens-eps z.core s.values.count inner room same below some low fit in
          let taken : TakenAs (gives (open_eps (written s) room) now) s.values.count inner room = rw w.1 (o.exactly.1 (rw w.1 at due)) in
          let u = (returns z now same).eps inner out room h (taken.uses, taken.count) in (u.0, taken);
    }
