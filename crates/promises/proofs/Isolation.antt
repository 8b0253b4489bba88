-- Isolation: what a call answers hangs on keys, codes, size, its own record and the context's faults.
use Rattle.std.specs.Prelude.{Ok, Err}
use Prim.Native.Nat.{ℕ, ◌<◌}
use mathlib.Core.Path.{◌≡◌, refl, sym, ap, ◌∙◌, subst}
use mathlib.Core.Bool.{Bool, true, false, cond}
use mathlib.Core.Logic.{◌⊎◌, inl, inr}
use mathlib.Core.List.{List, [], ◌∷◌}
use native.Mathlib.Omega.{arith}
use lib.ListN.{drop}
use lib.Dec.{eqb}
use borrow.Author.Tests.{eqb-true, eqb-false}
use Rattle.count.specs.Rule.{Opening, distance_of}
use Rattle.count.specs.declared.Taken.TheVariants.{Late, Forward}
use Rattle.count.specs.declared.Missed.TheVariants.{NoCandidate, WrongCode}
use Rattle.count.specs.declared.Record.{Record}
use Rattle.count.specs.Run.{State, Act, stay, uses, resize, close, act_of}
use Rattle.count.proofs.Lifting.{others}
use Rattle.nas_core.specs.Keyed.{wraps}
use Rattle.nas_5gs.specs.declared.Context.{Context}
use Rattle.nas_core.specs.declared.Direction.TheVariants.{Uplink, Downlink}
use Rattle.nas_5gs.specs.declared.Connection.TheVariants.{ThreeGpp, Non3Gpp}
use Rattle.nas_5gs.specs.OpenAnswer as open'
use Rattle.nas_5gs.specs.EpsOpenAnswer as eps
use Rattle.nas_5gs.specs.VerifyAnswer as verify
use Rattle.nas_5gs.specs.Places.{direction_no, bearer_no, place_of, record_at, fault_of}
use Rattle.nas_5gs.specs.Leaves.{leaves, over, use_next, received, Values, open_values, eps_open_values, verify_values}
use Rattle.nas_5gs.specs.Envelope.{envelope}
use Rattle.envelope.specs.Initial.{initial_envelope, beside}
use Rattle.nas_5gs.specs.Seal.{seal_refusal, opaque_refusal}
use Rattle.nas_5gs.specs.Initial.{initial_refusal}
use Rattle.nas_5gs.specs.Open.{open_refusal}
use Rattle.nas_5gs.specs.Eps.{eps_place, eps_message, seal_eps_refusal, open_eps_refusal, eps_opened, eps_handed}
use Rattle.nas_5gs.specs.Containers.{container_place, s1_to_n1, s1_to_n1_refusal, verify_s1_to_n1_refusal}
use Rattle.promises.specs.Calls.{Call, set_window, reselect, seal5gs, seal_opaque, seal_initial, open5gs, seal_eps, open_eps, make_n1_to_s1, verify_n1_to_s1, make_s1_to_n1, verify_s1_to_n1, Outcome, outcome, gives, second, lent, place_in, context_after}
use Rattle.promises.specs.Words.{SameKeys, record_of}
use Rattle.promises.specs.Isolation.{Elsewhere, Apart, Isolation}
use Rattle.promises.proofs.Shapes.{refusal_of, passing, does, Reselects, acts, found, inside, second-open, plain, opened_as, eps_found, eps_as, octet_found, octet_refused, octet_as, octet_used}
use Rattle.promises.proofs.Soundness.{machine, Four, acting, if-passed, stays-four}
use Rattle.promises.proofs.Passing.{passes, alone, sends, gives-is, gives-refused}
use Rattle.promises.proofs.Numbers.{fault-first}
use Rattle.promises.proofs.Faults.{fault-stays}

-- no new size, nothing closed
abbrev Quiet : Act → Type 0
Quiet stay = Unit {0}
Quiet (uses w c) = Unit {0}
Quiet (resize n) = ⊥
Quiet close = ⊥

found-quiet : (w : Bool) (o : Opening) → Quiet (act_of w o)
found-quiet w (Ok (Late c)) = tt
found-quiet w (Ok (Forward c)) = tt
found-quiet w (Err NoCandidate) = tt
found-quiet w (Err WrongCode) = tt

passing-quiet : (k : Call) (x : Context) → place_in k < 4 → Quiet (passing k x)
passing-quiet (set_window n) x h = absurd (omega arith)
passing-quiet (reselect i c ik ck) x h = absurd (omega arith)
passing-quiet (seal5gs t d k inner out) x h = tt
passing-quiet (seal_opaque t d k inner out) x h = tt
passing-quiet (seal_initial k w out) x h = tt
passing-quiet (open5gs d k m out out2) x h = found-quiet (wraps x.core) (found x (place_of d k) (bearer_no k) (direction_no d) m out)
passing-quiet (seal_eps inner out) x h = tt
passing-quiet (open_eps m out) x h = found-quiet (wraps x.core) (eps_found x m out)
passing-quiet make_n1_to_s1 x h = tt
passing-quiet (verify_n1_to_s1 s) x h = found-quiet (wraps x.core) (octet_found x s)
passing-quiet (make_s1_to_n1 ncc ngksi out) x h = tt
passing-quiet (verify_s1_to_n1 v) x h = tt

module _ (k : Call) (x : Context) (on : place_in k < 4) where
  does-quiet : Quiet (does k x)
  does-quiet = if-passed Quiet (refusal_of k x) (passing k x) tt (λ z. passing-quiet k x on)

  same_size : Four x → (gives k x).context.core.size ≡ x.core.size
  same_size four = (acts k x four).size-after ∙ go (does k x) does-quiet
    where
      go : (a : Act) → Quiet a → (Rattle.count.specs.Run.act a (record_of (place_in k) x)).size ≡ x.core.size
      go stay q = refl
      go (uses w c) q = refl
      go (resize _) q = elim q [ ]
      go close q = elim q [ ]

  keys-stay : SameKeys x.core (gives k x).context.core ⊎ Reselects k x → SameKeys x.core (gives k x).context.core
  keys-stay (inl s) = s
  keys-stay (inr r) = let h = subst (λ (k : Call). place_in k < 4) r.is on in absurd (omega arith)

  core-stays : Four x → (gives k x).context.core ≡ x.core
  core-stays four =
      let s = keys-stay (acts k x four).keys-after in
      λ i. record {
        integrity = sym s.integrity i;
        ciphering = sym s.ciphering i;
        integrity_key = sym s.integrity-key i;
        ciphering_key = sym s.ciphering-key i;
        size = same_size four i;
      }

  record-stays : Four x → (p : ℕ) → p < 4 → (p ≡ place_in k → ⊥) → record_at (gives k x).context p ≡ record_at x p
  record-stays four p there ne =
      ap (λ (s : State). s.at) (others Context Call machine Four acting k x four p (omega arith) ne (λ n e. subst Quiet e does-quiet) (λ e. subst Quiet e does-quiet))

  fault-same : Four x → fault_of (gives k x).context ≡ fault_of x
  fault-same four = go (eqb (fault_of x) 0) refl
    where
      go : (t : Bool) → eqb (fault_of x) 0 ≡ t → fault_of (gives k x).context ≡ fault_of x
      go true e = let z = eqb-true (fault_of x) 0 e in fault-stays k x four z ∙ sym z
      go false e =
          let n = eqb-false (fault_of x) 0 e in
          ap (λ (o : Outcome). fault_of o.context) (gives-refused k x (λ z. n (sym (fault-first k x n) ∙ z)))

abbrev Same : Outcome → Outcome → Type 0
Same o o' = (o.values ≡ o'.values) × (o.output ≡ o'.output)

-- the same keys, codes and size, other records
module _ (x : Context) (l : List Record) where
  abbrev y : Context
  y = record { core = x.core; records = l }

  module _ (fault : fault_of y ≡ fault_of x) where
    same-refusal : (k : Call) → record_at y (place_in k) ≡ record_at x (place_in k) → refusal_of k y ≡ refusal_of k x
    unfolding seal_refusal opaque_refusal initial_refusal open_refusal seal_eps_refusal open_eps_refusal s1_to_n1_refusal verify_s1_to_n1_refusal
    same-refusal (set_window n) e = rw fault
    same-refusal (reselect i c ik ck) e = rw fault
    same-refusal (seal5gs t d k inner out) e = rw (fault, e)
    same-refusal (seal_opaque t d k inner out) e = rw (fault, e)
    same-refusal (seal_initial k w out) e = rw (fault, e)
    same-refusal (open5gs d k m out out2) e = rw fault
    same-refusal (seal_eps inner out) e = rw (fault, e)
    same-refusal (open_eps m out) e = rw fault
    same-refusal make_n1_to_s1 e = rw (fault, e)
    same-refusal (verify_n1_to_s1 s) e = fault
    same-refusal (make_s1_to_n1 ncc ngksi out) e = rw (fault, e)
    same-refusal (verify_s1_to_n1 v) e = rw (fault, e)

    sends-same : (p : ℕ) (made : ℕ → List ℕ) (out : List ℕ) → record_at y p ≡ record_at x p → Same (sends y p made out) (sends x p made out)
    unfolding use_next
    sends-same p made out e = rw e (refl, refl)

    received-same : {A : Type 0} (v : A → Values) (p : ℕ) (n' y' : ℕ → A) (plain_of_lem : ℕ → List ℕ) (out : List ℕ) (o : Opening)
        → Same (outcome v (received y p (λ n. leaves (n' n) y out) (λ c z. leaves (y' c) z (over (plain_of_lem c) out)) o))
        (outcome v (received x p (λ n. leaves (n' n) x out) (λ c z. leaves (y' c) z (over (plain_of_lem c) out)) o))
    received-same v p n' y' plain_of_lem out (Err NoCandidate) = (refl, refl)
    received-same v p n' y' plain_of_lem out (Err WrongCode) = (refl, refl)
    received-same v p n' y' plain_of_lem out (Ok (Late c)) = (refl, refl)
    received-same v p n' y' plain_of_lem out (Ok (Forward c)) = (refl, refl)

    same-passes : (k : Call) → place_in k < 4 → record_at y (place_in k) ≡ record_at x (place_in k) → Same (passes k y) (passes k x)
    unfolding eps_opened eps_handed
    same-passes (set_window n) on e = absurd (omega arith)
    same-passes (reselect i c ik ck) on e = absurd (omega arith)
    same-passes (seal5gs t d k inner out) on e =
        sends-same (place_of d k) (λ c. envelope x.core t c (bearer_no k) (direction_no d) inner) out e
    same-passes (seal_opaque t d k inner out) on e =
        sends-same (place_of d k) (λ c. envelope x.core t c (bearer_no k) (direction_no d) inner) out e
    same-passes (seal_initial k w out) on e = sends-same (place_of Uplink k) (λ c. initial_envelope x.core c (bearer_no k) w) out e
    same-passes (open5gs d k m out out2) on e =
        let b = bearer_no k in let f = direction_no d in let p = place_of d k in
        rw e (received-same open_values p open'.Refused (opened_as x p b f m out) (plain x p b f m out) out (found x p b f m out))
    same-passes (seal_eps inner out) on e = sends-same eps_place (λ c. eps_message x.core c inner) out e
    same-passes (open_eps m out) on e =
        rw e (received-same eps_open_values eps_place eps.Refused (eps_as x m out) (λ c. drop 6 m) out (eps_found x m out))
    same-passes make_n1_to_s1 on e = rw e (refl, refl)
    same-passes (verify_n1_to_s1 s) on e = rw e (octet-same (octet_found x s))
      where
        far-same : (c : ℕ) → verify_values (octet_as y s c) ≡ verify_values (octet_as x s c)
        far-same c = ap (λ (r : Record). verify_values (verify.Verified c (distance_of r c))) e

        octet-same : (o : Opening)
            → Same (outcome verify_values (received y container_place (octet_refused y s) (octet_used y s) o))
            (outcome verify_values (received x container_place (octet_refused x s) (octet_used x s) o))
        octet-same (Err NoCandidate) = (refl, refl)
        octet-same (Err WrongCode) = (refl, refl)
        octet-same (Ok (Late c)) = (far-same c, refl)
        octet-same (Ok (Forward c)) = (far-same c, refl)
    same-passes (make_s1_to_n1 ncc ngksi out) on e = sends-same container_place (λ c. s1_to_n1 x.core ncc ngksi) out e
    same-passes (verify_s1_to_n1 v) on e = sends-same container_place (λ c. []) [] e

    same_gives : (k : Call) → place_in k < 4 → record_at y (place_in k) ≡ record_at x (place_in k) → Same (gives k y) (gives k x)
    same_gives k on e = rw (gives-is k y, gives-is k x, same-refusal k e) (go (eqb (refusal_of k x) 0))
      where
        go : (t : Bool)
            → Same (cond t (passes k y) (alone (refusal_of k x) y (lent k))) (cond t (passes k x) (alone (refusal_of k x) x (lent k)))
        go true = same-passes k on e
        go false = (refl, refl)

    seconds-same : (p : ℕ) (out2 : List ℕ) (q : ℕ → List ℕ) (o : Opening)
        → received y p (λ n. out2) (λ c z. over (q c) out2) o ≡ received x p (λ n. out2) (λ c z. over (q c) out2) o
    seconds-same p out2 q (Err NoCandidate) = refl
    seconds-same p out2 q (Err WrongCode) = refl
    seconds-same p out2 q (Ok (Late c)) = refl
    seconds-same p out2 q (Ok (Forward c)) = refl

    same_second : (k : Call) → record_at y (place_in k) ≡ record_at x (place_in k) → second k y ≡ second k x
    same_second (set_window n) e = refl
    same_second (reselect i c ik ck) e = refl
    same_second (seal5gs t d k inner out) e = refl
    same_second (seal_opaque t d k inner out) e = refl
    same_second (seal_initial k w out) e = refl
    same_second (open5gs d k m out out2) e =
        let b = bearer_no k in let f = direction_no d in let p = place_of d k in
        rw (
          second-open y d k m out out2,
          second-open x d k m out out2,
          same-refusal (open5gs d k m out out2) e,
          e,
          seconds-same p out2 (λ c. beside (inside x p b f m out c)) (found x p b f m out),
        )
    same_second (seal_eps inner out) e = refl
    same_second (open_eps m out) e = refl
    same_second make_n1_to_s1 e = refl
    same_second (verify_n1_to_s1 s) e = refl
    same_second (make_s1_to_n1 ncc ngksi out) e = refl
    same_second (verify_s1_to_n1 v) e = refl

-- contexts that a record at p cannot tell apart
record Alike (p : ℕ) (x z : Context) : Type 0 where
  core : z.core ≡ x.core
  at : record_at z p ≡ record_at x p
  fault : fault_of z ≡ fault_of x

alike-gives : (k : Call) (x z : Context) → place_in k < 4 → Alike (place_in k) x z → Same (gives k z) (gives k x) × (second k z ≡ second k x)
alike-gives k x z on a =
    let q : z ≡ record { core = x.core; records = z.records } = λ i. record { core = a.core i; records = z.records } in
    let f : fault_of (record { core = x.core; records = z.records }) ≡ fault_of x = ap fault_of (sym q) ∙ a.fault in
    subst (λ (w : Context). Same (gives k w) (gives k x) × (second k w ≡ second k x)) (sym q)
    (same_gives x z.records f k on a.at, same_second x z.records f k a.at)

module _ (x : Context) (four : Four x) (p : ℕ) (there : p < 4) where
  four-after : (ks : List Call) → Four (context_after gives x ks)
  four-after [] = four
  four-after (k ∷ ks) = stays-four k (context_after gives x ks) (four-after ks)

  alike : (ks : List Call) → Elsewhere p ks → Alike p x (context_after gives x ks)
  alike [] h = record { core = refl; at = refl; fault = refl }
  alike (k ∷ ks) h =
      let z = context_after gives x ks in
      let a = alike ks h.2 in
      let f = four-after ks in
      record {
        core = core-stays k z h.0 f ∙ a.core;
        at = record-stays k z h.0 f p there h.1 ∙ a.at;
        fault = fault-same k z h.0 f ∙ a.fault;
      }

pub isolation : Isolation
isolation x four p there ks h =
    let z = context_after gives x ks in
    let a = alike x four p there ks h in
    let same : (k : Call) → place_in k ≡ p → Same (gives k z) (gives k x) × (second k z ≡ second k x) =
    λ k e. alike-gives k x z (omega arith) (subst (λ (q : ℕ). Alike q x z) (sym e) a) in
    record { left = a.at; core = a.core; answers = λ k e. (same k e).0.0; writes = λ k e. (same k e).0.1; writes-second = λ k e. (same k e).1 }

pub apart : Apart
apart Uplink Uplink ThreeGpp ThreeGpp e = (refl, refl)
apart Uplink Uplink ThreeGpp Non3Gpp e = absurd (omega arith)
apart Uplink Uplink Non3Gpp ThreeGpp e = absurd (omega arith)
apart Uplink Uplink Non3Gpp Non3Gpp e = (refl, refl)
apart Uplink Downlink ThreeGpp ThreeGpp e = absurd (omega arith)
apart Uplink Downlink ThreeGpp Non3Gpp e = absurd (omega arith)
apart Uplink Downlink Non3Gpp ThreeGpp e = absurd (omega arith)
apart Uplink Downlink Non3Gpp Non3Gpp e = absurd (omega arith)
apart Downlink Uplink ThreeGpp ThreeGpp e = absurd (omega arith)
apart Downlink Uplink ThreeGpp Non3Gpp e = absurd (omega arith)
apart Downlink Uplink Non3Gpp ThreeGpp e = absurd (omega arith)
apart Downlink Uplink Non3Gpp Non3Gpp e = absurd (omega arith)
apart Downlink Downlink ThreeGpp ThreeGpp e = (refl, refl)
apart Downlink Downlink ThreeGpp Non3Gpp e = absurd (omega arith)
apart Downlink Downlink Non3Gpp ThreeGpp e = absurd (omega arith)
apart Downlink Downlink Non3Gpp Non3Gpp e = (refl, refl)
