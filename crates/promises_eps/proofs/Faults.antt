-- What a context holds stays without fault, under null integrity too.
use Rattle.std.specs.Prelude.{None}
use Prim.Native.Nat.{ℕ, zero, suc, ◌%◌, ◌≤◌, ◌<◌}
use mathlib.Core.Path.{◌≡◌, refl}
use mathlib.Core.Bool.{Bool, true, false, cond, ◌||◌}
use mathlib.Core.Logic.{◌⊎◌, inl, inr}
use mathlib.Core.List.{List, [], ◌∷◌}
use native.Mathlib.Omega.{arith}
use lib.ListN.{get_or}
use lib.Dec.{ltb}
use borrow.Author.Tests.{ltb-false, le-ltb}
use Rattle.count.specs.Rule.{exhausted, late_of, opening, forward_only}
use Rattle.count.specs.Run.{stay, close, act_of}
use Rattle.refusals.specs.Order.{◌when◌}
use Rattle.refusals.proofs.Laws.{passed, off}
use Rattle.nas_core.specs.Keyed.{wraps, away_from_null}
use Rattle.nas_core.specs.Refusals.{unbuilt, any_over, core_refusals, core_fault}
use Rattle.nas_core.specs.Verify.{fits, verify_of}
use Rattle.nas_eps.specs.declared.Context.{Context}
use Rattle.nas_eps.specs.Places.{uplink, place_of, two, record_at, next_at, context_refusals, fault_of}
use Rattle.nas_eps.specs.Octets.{bearer, is_request, short_fits, request_as}
use Rattle.promise.specs.Limits.{Bounded}
use Rattle.promise.proofs.Limits.{next-bounded, tried-bounded, limits}
use Rattle.promises_eps.specs.Calls.{Call, set_window, reselect, seal_message, seal_request, open_message, gives}
use Rattle.promises_eps.specs.Words.{SameKeys}
use Rattle.promises_eps.proofs.Shapes.{refusal_of, passing, does, Reselects, acts, found}
use Rattle.promises_eps.proofs.Soundness.{Two, machine, acting, if-passed, NextThere, next-there, stays_two}

pub record Faultless (x : Context) : Type 0 where
  pub built : unbuilt x.core.integrity x.core.ciphering ≡ false
  pub small : x.core.size ≤ 64
  pub counts : (p : ℕ) → p < 2 → next_at x p ≤ exhausted

or-false : (a b : Bool) → a || b ≡ false → (a ≡ false) × (b ≡ false)
or-false true b e = (e, (cc))
or-false false b e = (refl, e)

pub by_place : (f : ℕ → ℕ) → f 0 ≤ exhausted → f 1 ≤ exhausted → (p : ℕ) → p < 2 → f p ≤ exhausted
by_place f a b zero h = a
by_place f a b (suc zero) h = b
by_place f a b (suc (suc p)) h = absurd (omega arith)

none_over : (a b : ℕ) → any_over (a ∷ b ∷ []) ≡ false → (a ≤ exhausted) × (b ≤ exhausted)
none_over a b e =
    let t = or-false (ltb exhausted a) _ e in
    (ltb-false exhausted a t.0, ltb-false exhausted b (or-false (ltb exhausted b) _ t.1).0)

pub faultless : (x : Context) → fault_of x ≡ 0 → Faultless x
unfolding fault_of core_fault
faultless x e =
    let l = passed (context_refusals x) e in
    let k = passed (core_refusals x.core) (l 0) in
    let n = none_over (next_at x 0) (next_at x 1) (off 16 (any_over (two (next_at x))) (omega arith) (l 1)) in
    record {
      built = off 13 (unbuilt x.core.integrity x.core.ciphering) (omega arith) (k 0);
      small = ltb-false 64 x.core.size (off 14 (ltb 64 x.core.size) (omega arith) (k 1));
      counts = by_place (next_at x) n.0 n.1;
    }

pub no-fault : (x : Context) → Faultless x → fault_of x ≡ 0
unfolding fault_of core_fault
no-fault x f =
    simp (
      f.built,
      le-ltb 64 x.core.size f.small,
      le-ltb exhausted (next_at x 0) (f.counts 0 (omega arith)),
      le-ltb exhausted (next_at x 1) (f.counts 1 (omega arith)),
    )

found-bounded : (x : Context) (p : ℕ) (m : List ℕ) → Bounded (act_of (wraps x.core) (found x p m))
unfolding verify_of request_as opening forward_only
found-bounded x p m = go (is_request m)
  where
    go : (t : Bool) → Bounded (act_of (wraps x.core) (cond t (request_as x.core (record_at x p) m) (verify_of x.core (record_at x p) bearer p 1 m)))
    go true = tried-bounded 5 (wraps x.core) (λ c. short_fits x.core c m) None (record_at x p) (get_or m 1 0 % 32)
    go false =
        tried-bounded 8 (wraps x.core) (λ c. fits x.core c bearer p 1 m)
        (cond (wraps x.core) None (late_of 8 x.core.size (record_at x p) (get_or m 5 0))) (record_at x p) (get_or m 5 0)

closing-bounded : (t : Bool) → Bounded (cond t close stay)
closing-bounded true = tt
closing-bounded false = tt

passing-bounded : (k : Call) (x : Context) → refusal_of k x ≡ 0 → NextThere k x → Bounded (passing k x)
passing-bounded (set_window n) x e h = ltb-false 64 n (off 14 (ltb 64 n) (omega arith) (passed (fault_of x ∷ 14 when (ltb 64 n) ∷ []) e 1))
passing-bounded (reselect i c ik ck) x e h = closing-bounded (away_from_null x.core.integrity i)
passing-bounded (seal_message t d inner out) x e h = next-bounded (wraps x.core) (next_at x (place_of d)) h
passing-bounded (seal_request i out) x e h = next-bounded (wraps x.core) (next_at x uplink) h
passing-bounded (open_message d m out) x e h = found-bounded x (place_of d) m

does-bounded : (k : Call) (x : Context) → Bounded (does k x)
does-bounded k x = if-passed Bounded (refusal_of k x) (passing k x) tt (λ e. passing-bounded k x e (next-there k x e))

codes-built : (k : Call) (x : Context) → Faultless x → SameKeys x.core (gives k x).context.core ⊎ Reselects k x
    → let y = (gives k x).context.core in unbuilt y.integrity y.ciphering ≡ false
codes-built k x f (inl s) = rw (← s.integrity, ← s.ciphering) f.built
codes-built k x f (inr r) = rw r.core-after r.built

pub stays-faultless : (k : Call) (x : Context) → Two x → Faultless x → Faultless (gives k x).context
stays-faultless k x two f =
    let a = acts k x two in
    let l = limits Context Call machine Two acting k x two (does-bounded k x) record { small = f.small; counts = λ p h. f.counts p (omega arith) } in
    record { built = codes-built k x f a.keys-after; small = l.small; counts = λ p h. l.counts p (omega (arith, stays_two k x two)) }

pub fault-stays : (k : Call) (x : Context) → Two x → fault_of x ≡ 0 → fault_of (gives k x).context ≡ 0
fault-stays k x two e = no-fault (gives k x).context (stays-faultless k x two (faultless x e))
