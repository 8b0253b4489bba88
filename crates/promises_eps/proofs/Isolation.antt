-- Isolation: what a call answers hangs on keys, codes, size, its own record and the context's faults.
use Rattle.std.specs.Prelude.{Ok, Err}
use Prim.Native.Nat.{ℕ, ◌<◌}
use mathlib.Core.Path.{◌≡◌, refl, sym, ap, ◌∙◌, subst}
use mathlib.Core.Bool.{Bool, true, false, cond}
use mathlib.Core.Logic.{◌⊎◌, inl, inr}
use mathlib.Core.List.{List, [], ◌∷◌}
use native.Mathlib.Omega.{arith}
use lib.Dec.{eqb}
use borrow.Author.Tests.{eqb-true, eqb-false}
use Rattle.count.specs.Rule.{Opening}
use Rattle.count.specs.declared.Taken.TheVariants.{Late, Forward}
use Rattle.count.specs.declared.Missed.TheVariants.{NoCandidate, WrongCode}
use Rattle.count.specs.declared.Record.{Record}
use Rattle.count.specs.Run.{State, Act, stay, uses, resize, close, act, act_of}
use Rattle.count.proofs.Lifting.{others}
use Rattle.nas_core.specs.Keyed.{wraps}
use Rattle.nas_eps.specs.declared.Context.{Context}
use Rattle.nas_core.specs.declared.Direction.TheVariants.{Uplink, Downlink}
use Rattle.nas_eps.specs.OpenAnswer as open'
use Rattle.nas_eps.specs.Places.{uplink, place_of, record_at, fault_of}
use Rattle.nas_eps.specs.Leaves.{leaves, over, use_next, received, Values, open_values}
use Rattle.nas_eps.specs.Octets.{message, service_request}
use Rattle.nas_eps.specs.Seal.{seal_refusal, request_refusal}
use Rattle.nas_eps.specs.Open.{open_refusal}
use Rattle.promises_eps.specs.Calls.{Call, set_window, reselect, seal_message, seal_request, open_message, Outcome, outcome, gives, lent, place_in, context_after}
use Rattle.promises_eps.specs.Words.{SameKeys, record_of}
use Rattle.promises_eps.specs.Isolation.{Elsewhere, Apart, Isolation}
use Rattle.promises_eps.proofs.Shapes.{refusal_of, passing, does, Reselects, acts, found, plain, opened_as}
use Rattle.promises_eps.proofs.Soundness.{machine, Two, acting, if-passed, stays_two}
use Rattle.promises_eps.proofs.Passing.{passes, alone, sends, gives-is, gives-refused}
use Rattle.promises_eps.proofs.Numbers.{fault-first}
use Rattle.promises_eps.proofs.Faults.{fault-stays}

-- no new size, nothing closed
abbrev Quiet : Act → Type 0
Quiet stay = Unit {0}
Quiet (uses w c) = Unit {0}
Quiet (resize n) = ⊥
Quiet close = ⊥

found-quiet : (w : Bool) (o : Opening) → Quiet (act_of w o)
found-quiet w (Ok (Late c)) = tt
found-quiet w (Ok (Forward c)) = tt
found-quiet w (Err NoCandidate) = tt
found-quiet w (Err WrongCode) = tt

passing-quiet : (k : Call) (x : Context) → place_in k < 2 → Quiet (passing k x)
passing-quiet (set_window n) x h = absurd (omega arith)
passing-quiet (reselect i c ik ck) x h = absurd (omega arith)
passing-quiet (seal_message t d inner out) x h = tt
passing-quiet (seal_request i out) x h = tt
passing-quiet (open_message d m out) x h = found-quiet (wraps x.core) (found x (place_of d) m)

module _ (k : Call) (x : Context) (on : place_in k < 2) where
  does-quiet : Quiet (does k x)
  does-quiet = if-passed Quiet (refusal_of k x) (passing k x) tt (λ z. passing-quiet k x on)

  same_size : Two x → (gives k x).context.core.size ≡ x.core.size
  same_size two = (acts k x two).size-after ∙ go (does k x) does-quiet
    where
      go : (a : Act) → Quiet a → (act a (record_of (place_in k) x)).size ≡ x.core.size
      go stay q = refl
      go (uses w c) q = refl
      go (resize _) q = elim q [ ]
      go close q = elim q [ ]

  keys-stay : SameKeys x.core (gives k x).context.core ⊎ Reselects k x → SameKeys x.core (gives k x).context.core
  keys-stay (inl s) = s
  keys-stay (inr r) = let h = subst (λ (k : Call). place_in k < 2) r.is on in absurd (omega arith)

  core-stays : Two x → (gives k x).context.core ≡ x.core
  core-stays two =
      let s = keys-stay (acts k x two).keys-after in
      λ i. record {
        integrity = sym s.integrity i;
        ciphering = sym s.ciphering i;
        integrity_key = sym s.integrity-key i;
        ciphering_key = sym s.ciphering-key i;
        size = same_size two i;
      }

  record-stays : Two x → (p : ℕ) → p < 2 → (p ≡ place_in k → ⊥) → record_at (gives k x).context p ≡ record_at x p
  record-stays two p there ne =
      ap (λ (s : State). s.at) (others Context Call machine Two acting k x two p (omega arith) ne (λ n e. subst Quiet e does-quiet) (λ e. subst Quiet e does-quiet))

  fault-same : Two x → fault_of (gives k x).context ≡ fault_of x
  fault-same two = go (eqb (fault_of x) 0) refl
    where
      go : (t : Bool) → eqb (fault_of x) 0 ≡ t → fault_of (gives k x).context ≡ fault_of x
      go true e = let z = eqb-true (fault_of x) 0 e in fault-stays k x two z ∙ sym z
      go false e =
          let n = eqb-false (fault_of x) 0 e in
          ap (λ (o : Outcome). fault_of o.context) (gives-refused k x (λ z. n (sym (fault-first k x n) ∙ z)))

abbrev Same : Outcome → Outcome → Type 0
Same o o' = (o.values ≡ o'.values) × (o.output ≡ o'.output)

-- the same keys, codes and size, other records
module _ (x : Context) (l : List Record) where
  abbrev y : Context
  y = record { core = x.core; records = l }

  module _ (fault : fault_of y ≡ fault_of x) where
    same-refusal : (k : Call) → record_at y (place_in k) ≡ record_at x (place_in k) → refusal_of k y ≡ refusal_of k x
    unfolding seal_refusal request_refusal open_refusal
    same-refusal (set_window n) e = rw fault
    same-refusal (reselect i c ik ck) e = rw fault
    same-refusal (seal_message t d inner out) e = rw (fault, e)
    same-refusal (seal_request i out) e = rw (fault, e)
    same-refusal (open_message d m out) e = rw fault

    sends-same : (p : ℕ) (made : ℕ → List ℕ) (out : List ℕ) → record_at y p ≡ record_at x p → Same (sends y p made out) (sends x p made out)
    unfolding use_next
    sends-same p made out e = rw e (refl, refl)

    received-same : {A : Type 0} (v : A → Values) (p : ℕ) (n' y' : ℕ → A) (plain_of_lem : ℕ → List ℕ) (out : List ℕ) (o : Opening)
        → Same (outcome v (received y p (λ n. leaves (n' n) y out) (λ c z. leaves (y' c) z (over (plain_of_lem c) out)) o))
        (outcome v (received x p (λ n. leaves (n' n) x out) (λ c z. leaves (y' c) z (over (plain_of_lem c) out)) o))
    received-same v p n' y' plain_of_lem out (Err NoCandidate) = (refl, refl)
    received-same v p n' y' plain_of_lem out (Err WrongCode) = (refl, refl)
    received-same v p n' y' plain_of_lem out (Ok (Late c)) = (refl, refl)
    received-same v p n' y' plain_of_lem out (Ok (Forward c)) = (refl, refl)

    same-passes : (k : Call) → place_in k < 2 → record_at y (place_in k) ≡ record_at x (place_in k) → Same (passes k y) (passes k x)
    same-passes (set_window n) on e = absurd (omega arith)
    same-passes (reselect i c ik ck) on e = absurd (omega arith)
    same-passes (seal_message t d inner out) on e = sends-same (place_of d) (λ c. message x.core t c (place_of d) inner) out e
    same-passes (seal_request i out) on e = sends-same uplink (λ c. service_request x.core i c) out e
    same-passes (open_message d m out) on e =
        let p = place_of d in
        rw e (received-same open_values p open'.Refused (opened_as x p m) (plain x p m) out (found x p m))

    same_gives : (k : Call) → place_in k < 2 → record_at y (place_in k) ≡ record_at x (place_in k) → Same (gives k y) (gives k x)
    same_gives k on e = rw (gives-is k y, gives-is k x, same-refusal k e) (go (eqb (refusal_of k x) 0))
      where
        go : (t : Bool)
            → Same (cond t (passes k y) (alone (refusal_of k x) y (lent k))) (cond t (passes k x) (alone (refusal_of k x) x (lent k)))
        go true = same-passes k on e
        go false = (refl, refl)

-- contexts that a record at p cannot tell apart
record Alike (p : ℕ) (x z : Context) : Type 0 where
  core : z.core ≡ x.core
  at : record_at z p ≡ record_at x p
  fault : fault_of z ≡ fault_of x

alike-gives : (k : Call) (x z : Context) → place_in k < 2 → Alike (place_in k) x z → Same (gives k z) (gives k x)
alike-gives k x z on a =
    let q : z ≡ record { core = x.core; records = z.records } = λ i. record { core = a.core i; records = z.records } in
    let f : fault_of (record { core = x.core; records = z.records }) ≡ fault_of x = ap fault_of (sym q) ∙ a.fault in
    subst (λ (w : Context). Same (gives k w) (gives k x)) (sym q) (same_gives x z.records f k on a.at)

module _ (x : Context) (two : Two x) (p : ℕ) (there : p < 2) where
  two-after : (ks : List Call) → Two (context_after gives x ks)
  two-after [] = two
  two-after (k ∷ ks) = stays_two k (context_after gives x ks) (two-after ks)

  alike : (ks : List Call) → Elsewhere p ks → Alike p x (context_after gives x ks)
  alike [] h = record { core = refl; at = refl; fault = refl }
  alike (k ∷ ks) h =
      let z = context_after gives x ks in
      let a = alike ks h.2 in
      let f = two-after ks in
      record {
        core = core-stays k z h.0 f ∙ a.core;
        at = record-stays k z h.0 f p there h.1 ∙ a.at;
        fault = fault-same k z h.0 f ∙ a.fault;
      }

pub isolation : Isolation
isolation x two p there ks h =
    let z = context_after gives x ks in
    let a = alike x two p there ks h in
    let same : (k : Call) → place_in k ≡ p → Same (gives k z) (gives k x) =
    λ k e. alike-gives k x z (omega arith) (subst (λ (q : ℕ). Alike q x z) (sym e) a) in
    record { left = a.at; core = a.core; answers = λ k e. (same k e).0; writes = λ k e. (same k e).1 }

pub apart : Apart
apart Uplink Uplink e = refl
apart Uplink Downlink e = absurd (omega arith)
apart Downlink Uplink e = absurd (omega arith)
apart Downlink Downlink e = refl
