-- What a context holds stays without fault, under null integrity too.
use Rattle.std.specs.Prelude.{None}
use Prim.Native.Nat.{ℕ, zero, suc, ◌+◌, ◌≤◌, ◌<◌}
use mathlib.Core.Path.{◌≡◌, refl}
use mathlib.Core.Bool.{Bool, true, false, cond, ◌||◌}
use mathlib.Core.Logic.{◌⊎◌, inl, inr}
use mathlib.Core.List.{List, [], ◌∷◌}
use native.Mathlib.Omega.{arith}
use lib.ListN.{get_or}
use lib.Dec.{ltb}
use borrow.Author.Tests.{ltb-false}
use Rattle.count.specs.Rule.{exhausted, late_of, opening, forward_only}
use Rattle.count.specs.Run.{stay, close, act_of}
use Rattle.refusals.specs.Order.{◌when◌}
use Rattle.refusals.proofs.Laws.{passed, off}
use Rattle.nas_core.specs.Keyed.{wraps, away_from_null}
use Rattle.nas_core.specs.Refusals.{unbuilt, core_refusals, core_fault}
use Rattle.nas_core.specs.Verify.{fits, verify_of}
use Rattle.nas_5gs.specs.declared.Context.{Context}
use Rattle.nas_core.specs.declared.Direction.TheVariants.{Uplink}
use Rattle.nas_5gs.specs.Places.{direction_no, bearer_no, place_of, four, record_at, next_at, any_over, context_refusals, fault_of}
use Rattle.nas_5gs.specs.Eps.{eps_place, eps_bearer, eps_direction}
use Rattle.nas_5gs.specs.Containers.{container_place}
use Rattle.promises.specs.Calls.{Call, set_window, reselect, seal5gs, seal_opaque, seal_initial, open5gs, seal_eps, open_eps, make_n1_to_s1, verify_n1_to_s1, make_s1_to_n1, verify_s1_to_n1, gives}
use Rattle.promises.specs.Words.{SameKeys}
use Rattle.promises.proofs.Shapes.{refusal_of, passing, does, Reselects, acts}
use Rattle.promise.specs.Limits.{Bounded}
use Rattle.promise.proofs.Limits.{next-bounded, tried-bounded, limits}
use Rattle.promises.proofs.Soundness.{Four, machine, acting, if-passed, NextThere, next-there, stays-four}
use Rattle.promises.proofs.Taking.{no-fault}

pub record Faultless (x : Context) : Type 0 where
  pub built : unbuilt x.core.integrity x.core.ciphering ≡ false
  pub small : x.core.size ≤ 64
  pub counts : (p : ℕ) → p < 4 → next_at x p ≤ exhausted

or-false : (a b : Bool) → a || b ≡ false → (a ≡ false) × (b ≡ false)
or-false true b e = (e, (cc))
or-false false b e = (refl, e)

pub by_place : (f : ℕ → ℕ) → f 0 ≤ exhausted → f 1 ≤ exhausted → f 2 ≤ exhausted → f 3 ≤ exhausted → (p : ℕ) → p < 4 → f p ≤ exhausted
by_place f a b c d zero h = a
by_place f a b c d (suc zero) h = b
by_place f a b c d (suc (suc zero)) h = c
by_place f a b c d (suc (suc (suc zero))) h = d
by_place f a b c d (suc (suc (suc (suc p)))) h = absurd (omega arith)

pub none_over : (a b c d : ℕ) → any_over (a ∷ b ∷ c ∷ d ∷ []) ≡ false → (a ≤ exhausted) × (b ≤ exhausted) × (c ≤ exhausted) × (d ≤ exhausted)
none_over a b c d e =
    let t1 = or-false (ltb exhausted a) _ e in
    let t2 = or-false (ltb exhausted b) _ t1.1 in
    let t3 = or-false (ltb exhausted c) _ t2.1 in
    let t4 = or-false (ltb exhausted d) _ t3.1 in
    (ltb-false exhausted a t1.0, ltb-false exhausted b t2.0, ltb-false exhausted c t3.0, ltb-false exhausted d t4.0)

pub faultless : (x : Context) → fault_of x ≡ 0 → Faultless x
unfolding fault_of core_fault
faultless x e =
    let l = passed (context_refusals x) e in
    let k = passed (core_refusals x.core) (l 0) in
    let n = none_over (next_at x 0) (next_at x 1) (next_at x 2) (next_at x 3) (off 16 (any_over (four (next_at x))) (omega arith) (l 1)) in
    record {
      built = off 13 (unbuilt x.core.integrity x.core.ciphering) (omega arith) (k 0);
      small = ltb-false 64 x.core.size (off 14 (ltb 64 x.core.size) (omega arith) (k 1));
      counts = by_place (next_at x) n.0 n.1 n.2 n.3;
    }

verify-bounded : (x : Context) (p b d q : ℕ) (m : List ℕ) → Bounded (act_of (wraps x.core) (verify_of x.core (record_at x p) b d q m))
unfolding verify_of opening
verify-bounded x p b d q m =
    tried-bounded 8 (wraps x.core) (λ c. fits x.core c b d q m) (cond (wraps x.core) None (late_of 8 x.core.size (record_at x p) (get_or m (q + 4) 0)))
    (record_at x p) (get_or m (q + 4) 0)

octet-bounded : (x : Context) (s : ℕ) → Bounded (passing (verify_n1_to_s1 s) x)
unfolding forward_only
octet-bounded x s = tried-bounded 8 (wraps x.core) (λ c. true) None (record_at x container_place) s

closing-bounded : (t : Bool) → Bounded (cond t close stay)
closing-bounded true = tt
closing-bounded false = tt

passing-bounded : (k : Call) (x : Context) → refusal_of k x ≡ 0 → NextThere k x → Bounded (passing k x)
passing-bounded (set_window n) x e h = ltb-false 64 n (off 14 (ltb 64 n) (omega arith) (passed (fault_of x ∷ 14 when (ltb 64 n) ∷ []) e 1))
passing-bounded (reselect i c ik ck) x e h = closing-bounded (away_from_null x.core.integrity i)
passing-bounded (seal5gs t d k inner out) x e h = next-bounded (wraps x.core) (next_at x (place_of d k)) h
passing-bounded (seal_opaque t d k inner out) x e h = next-bounded (wraps x.core) (next_at x (place_of d k)) h
passing-bounded (seal_initial k w out) x e h = next-bounded (wraps x.core) (next_at x (place_of Uplink k)) h
passing-bounded (open5gs d k m out out2) x e h = verify-bounded x (place_of d k) (bearer_no k) (direction_no d) 2 m
passing-bounded (seal_eps inner out) x e h = next-bounded (wraps x.core) (next_at x eps_place) h
passing-bounded (open_eps m out) x e h = verify-bounded x eps_place eps_bearer eps_direction 1 m
passing-bounded make_n1_to_s1 x e h = next-bounded (wraps x.core) (next_at x container_place) h
passing-bounded (verify_n1_to_s1 s) x e h = octet-bounded x s
passing-bounded (make_s1_to_n1 ncc ngksi out) x e h = next-bounded (wraps x.core) (next_at x container_place) h
passing-bounded (verify_s1_to_n1 v) x e h = next-bounded (wraps x.core) (next_at x container_place) h

does-bounded : (k : Call) (x : Context) → Bounded (does k x)
does-bounded k x = if-passed Bounded (refusal_of k x) (passing k x) tt (λ e. passing-bounded k x e (next-there k x e))

codes-built : (k : Call) (x : Context) → Faultless x → SameKeys x.core (gives k x).context.core ⊎ Reselects k x
    → let y = (gives k x).context.core in unbuilt y.integrity y.ciphering ≡ false
codes-built k x f (inl s) = rw (← s.integrity, ← s.ciphering) f.built
codes-built k x f (inr r) = rw r.core-after r.built

pub stays-faultless : (k : Call) (x : Context) → Four x → Faultless x → Faultless (gives k x).context
stays-faultless k x four f =
    let a = acts k x four in
    let l = limits Context Call machine Four acting k x four (does-bounded k x) record { small = f.small; counts = λ p h. f.counts p (omega arith) } in
    record { built = codes-built k x f a.keys-after; small = l.small; counts = λ p h. l.counts p (omega (arith, stays-four k x four)) }

pub fault-stays : (k : Call) (x : Context) → Four x → fault_of x ≡ 0 → fault_of (gives k x).context ≡ 0
fault-stays k x four e =
    let f = stays-faultless k x four (faultless x e) in no-fault (gives k x).context f.built f.small f.counts
