-- Demand 3.
use Prim.Native.Nat.{ℕ, zero, suc, ◌%◌, ◌<◌}
use mathlib.Core.Path.{◌≡◌, refl, sym, ap, ◌∙◌, subst}
use mathlib.Core.Bool.{Bool, true, false, cond}
use mathlib.Core.Logic.{◌⊎◌, inl, inr, ◌↔◌}
use mathlib.Core.List.{List, [], ◌∷◌, ◌++◌}
use native.Mathlib.Omega.{arith}
use lib.Dec.{eqb}
use borrow.Author.Tests.{eqb-true, ne_eqb}
use Rattle.aes.specs.Keys.{key_of}
use Rattle.count.specs.declared.Record.{Record}
use Rattle.count.specs.Rule.{close_of}
use Rattle.count.specs.Run.{close, act, Within, Shut, In, NoneTwice}
use Rattle.count.proofs.Starts.{starts}
use Rattle.refusals.specs.Order.{◌when◌, first}
use Rattle.refusals.proofs.Laws.{passed, off}
use Rattle.nas_core.specs.Keyed.{wraps, away_from_null, core_with}
use Rattle.nas_core.specs.Refusals.{unbuilt}
use Rattle.nas_eps.specs.declared.Context.{Context}
use Rattle.nas_core.specs.declared.Direction.{Direction}
use Rattle.nas_core.specs.declared.Direction.TheVariants.{Uplink, Downlink}
use Rattle.nas_core.specs.ChangeAnswer.{Refused, Done}
use Rattle.nas_eps.specs.Places.{uplink, place_of, two, record_at, next_at, fault_of}
use Rattle.nas_eps.specs.Leaves.{leaves}
use Rattle.nas_eps.specs.Changes.{context_with, refused_context, new_of, closed, kept_for, reselect_of}
use Rattle.nas_eps.specs.Octets.{message, service_request}
use Rattle.promise.specs.Kept.{Begins as BeginsAt}
use Rattle.promise.proofs.Acts.{same_keys}
use Rattle.promise.proofs.Kept.{kept}
use Rattle.promise.proofs.Messages.{opens}
use Rattle.promises_eps.specs.Calls.{Call, set_window, reselect, seal_message, seal_request, open_message, Outcome, gives, place_in, used_by, context_after, counts_used}
use Rattle.promises_eps.specs.Words.{SameKeys, record_of, Ahead, Succeeds, Uses, TakenAs, AnswersRequest}
use Rattle.promises_eps.specs.Demand3.{Fresh, Reselected, Begins, fresh, reselected, PassedOver, NeverToNull, NeverReselected, InsideSince, StillOpen, Due, Opens, Demand3, Keeps}
use Rattle.promises_eps.proofs.Shapes.{Reselects, acts}
use Rattle.promises_eps.proofs.Passing.{alone, gives-passed, gives-refused}
use Rattle.promises_eps.proofs.Soundness.{Good, trans-keys}
use Rattle.promises_eps.proofs.Faults.{Faultless, by_place, faultless}
use Rattle.promises_eps.proofs.Taking.{message-same, request-same}
use Rattle.promises_eps.proofs.Messages.{gives_guarded, guarded_machine, words, Guarded, keeping, messages, goes, requests, request-goes}

pub place-there : (d : Direction) → place_of d < 2
place-there Uplink = omega arith
place-there Downlink = omega arith

-- Where a run may begin: good, without fault, nothing open late in either record.
pub record Beginning (x : Context) : Type 0 where
  pub good : Good x
  pub ok : Faultless x
  pub shut : (p : ℕ) → p < 2 → Shut (record_of p x)

-- as long as no reselection to null is accepted, ours is the context that refuses each
agrees : (k : Call) (x : Context) → ((i c : ℕ) (ik ck : List ℕ) → k ≡ reselect i c ik ck → i ≡ 0 → Succeeds (gives k x) → ⊥)
    → ((gives k x).context ≡ (gives_guarded k x).context) × (used_by (gives k x).values ≡ used_by (gives_guarded k x).values)
agrees (set_window n) x never = (refl, refl)
agrees (reselect i c ik ck) x never = go (eqb i 0) refl
  where
    go : (t : Bool) → eqb i 0 ≡ t
        → let o = gives (reselect i c ik ck) x in
        let o' = cond t (alone 13 x []) (gives (reselect i c ik ck) x) in
        (o.context ≡ o'.context) × (used_by o.values ≡ used_by o'.values)
    go true e =
        let k = reselect i c ik ck in
        let q = gives-refused k x (λ z. never i c ik ck refl (eqb-true i 0 e) (ap (λ (o : Outcome). o.values.number) (gives-passed k x z))) in
        (ap (λ (o : Outcome). o.context) q, ap (λ (o : Outcome). used_by o.values) q)
    go false e = (refl, refl)
agrees (seal_message t d inner out) x never = (refl, refl)
agrees (seal_request i out) x never = (refl, refl)
agrees (open_message d m out) x never = (refl, refl)

-- so all that is said of its calls is said of ours
module _ (x : Context) where
  after_same : (ks : List Call) → NeverToNull gives x ks → context_after gives x ks ≡ context_after gives_guarded x ks
  after_same [] h = refl
  after_same (k ∷ ks) h =
      (agrees k (context_after gives x ks) h.0).0 ∙ ap (λ (y : Context). (gives_guarded k y).context) (after_same ks h.1)

  counts_same : (p : ℕ) (ks : List Call) → NeverToNull gives x ks → counts_used gives p x ks ≡ counts_used gives_guarded p x ks
  counts_same p [] h = refl
  counts_same p (k ∷ ks) h =
      let e = (agrees k (context_after gives x ks) h.0).1 ∙ ap (λ (y : Context). used_by (gives_guarded k y).values) (after_same ks h.1) in
      let r = counts_same p ks h.1 in
      λ i. cond (eqb p (place_in k)) (e i) [] ++ r i

  lain-same : (p : ℕ) (ks : List Call) → NeverToNull gives x ks → (c : ℕ) → InsideSince gives p x ks c ≡ InsideSince gives_guarded p x ks c
  lain-same p [] h c = refl
  lain-same p (k ∷ ks) h c =
      let e = after_same (k ∷ ks) h in
      let f = after_same ks h.1 in
      let r = lain-same p ks h.1 c in
      λ i. Within (record_of p (e i)) c × (PassedOver p (f i) (e i) c ⊎ r i)

  module _ (p : ℕ) (ks : List Call) (h : NeverToNull gives x ks) where
    still-same : (c : ℕ) → StillOpen gives p x ks c ≡ StillOpen gives_guarded p x ks c
    still-same c =
        let e = counts_same p ks h in
        let r = lain-same p ks h c in
        λ i. (In c (e i) → ⊥) × r i

    due-same : (fit : ℕ → Type 0) (c : ℕ) → Due gives p x ks fit c ≡ Due gives_guarded p x ks fit c
    due-same fit c =
        let e = after_same ks h in
        λ i. still-same c i ⊎ (Ahead 256 p (e i) c × ((c' : ℕ) → still-same c' i → c' % 256 ≡ c % 256 → fit c' → ⊥))

    opens-same : (fit : ℕ → Type 0) (k : Call) (c : ℕ) (inner out : List ℕ)
        → let z = context_after gives_guarded x ks in
        (TakenAs (gives k z) c inner out ↔ Due gives_guarded p x ks fit c)
        → ((c' : ℕ) → StillOpen gives_guarded p x ks c' → c' % 256 ≡ c % 256 → fit c' → Uses (gives k z) c')
        → Opens gives p x ks fit (gives k (context_after gives x ks)) c inner out
    opens-same fit k c inner out taken other =
        let e = sym (after_same ks h) in
        record {
          exactly =
              subst (λ (y : Context). TakenAs (gives k y) c inner out ↔ Due gives p x ks fit c) e
              (subst (λ (D : Type 0). TakenAs (gives k (context_after gives_guarded x ks)) c inner out ↔ D) (sym (due-same fit c)) taken);
          exception = λ c' st q f.
              subst (λ (y : Context). Uses (gives k y) c') e (other c' (subst (λ (S : Type 0). S) (still-same c') st) q f);
        }

module _ (x : Context) (start : Beginning x) where
  begins : (p : ℕ) → p < 2 → BeginsAt guarded_machine Guarded p x
  begins p h =
      record {
        good = record { good = start.good; ok = start.ok };
        there = omega (arith, start.good.two);
        counted = start.ok.counts p h;
        shut = start.shut p h;
      }

  module _ (ks : List Call) (never : NeverToNull gives x ks) where
    abbrev here : Context
    here = context_after gives x ks

    pub guarded-now : Guarded here
    guarded-now =
        subst Guarded (sym (after_same x ks never)) (kept Context Call guarded_machine words Guarded keeping 0 x (begins 0 (omega arith)) ks).0

    there-too : SameKeys here.core (context_after gives_guarded x ks).core
    there-too = subst (λ (y : Context). SameKeys here.core y.core) (after_same x ks never) (same_keys here.core)

  -- the calls but reselection keep keys and codes
  keys-now : (ks : List Call) → NeverToNull gives x ks → NeverReselected gives x ks → SameKeys x.core (context_after gives x ks).core
  keys-now [] h n = same_keys x.core
  keys-now (k ∷ ks) h n =
      let y = context_after gives x ks in
      trans-keys x.core y.core (gives k y).context.core (keys-now ks h.1 n.1)
      (still (acts k y (guarded-now ks h.1).good.two).keys-after n.0)
    where
      still : SameKeys (context_after gives x ks).core (gives k (context_after gives x ks)).context.core ⊎ Reselects k (context_after gives x ks)
          → ((i c : ℕ) (ik ck : List ℕ) → k ≡ reselect i c ik ck → Unit {0} → Succeeds (gives k (context_after gives x ks)) → ⊥)
          → SameKeys (context_after gives x ks).core (gives k (context_after gives x ks)).context.core
      still (inl s) never = s
      still (inr r) never = absurd (never r.integrity r.ciphering r.integrity_key r.ciphering_key r.is tt r.succeeds)

  demand : (ks : List Call) → NeverToNull gives x ks → Demand3 gives x ks
  demand ks h =
      let now = context_after gives x ks in
      let same-there = there-too ks h in
      record {
        once = λ d.
            let p = place_of d in
            subst NoneTwice (sym (counts_same x p ks h)) (kept Context Call guarded_machine words Guarded keeping p x (begins p (place-there d)) ks).1.once;
        keys = keys-now ks h;
        opens = λ d y t c inner out same from to count some low room.
            let p = place_of d in
            let o = opens Context Call guarded_machine words Guarded messages keeping goes x ks record { keys = now.core; way = d; type = t; inner = inner; out = out } c
            (begins p (place-there d)) record { same = same-there; from = from; to = to; count = count; some = some; low = low; room = room } in
            rw (message-same now.core y same t c p inner)
            (opens-same x p ks h _ (open_message d (message now.core t c p inner) out) c inner out (o.exactly refl) (o.exception refl));
        requests = λ y i c out same seven count.
            let o = opens Context Call guarded_machine words Guarded requests keeping request-goes x ks record { keys = now.core; identifier = i; out = out } c
            (begins uplink (omega arith)) record { same = same-there; count = count } in
            rw (request-same now.core y same i c)
            (subst
            (λ (z : Context).
            AnswersRequest (gives (open_message Uplink (service_request now.core i c) out) z) c i out ↔ Ahead 32 uplink z c)
            (sym (after_same x ks h)) (o.forward-only refl));
      }

-- what is accepted is what was made
accepted : (n : ℕ) (made bad x : Context) → cond (eqb n 0) (leaves Done made []) (leaves (Refused n) bad []) ≡ leaves Done x [] → (n ≡ 0) × (made ≡ x)
accepted n made bad x e = go (eqb n 0) refl e
  where
    go : (t : Bool) → eqb n 0 ≡ t → cond t (leaves Done made []) (leaves (Refused n) bad []) ≡ leaves Done x [] → (n ≡ 0) × (made ≡ x)
    go true q h = (eqb-true n 0 q, (cc))
    go false q h = let z : ◌≡◌ {A = ℕ} 0 1 = cc in absurd (omega arith)

-- a fresh context
pub record Started (x : Context) : Type 0 where
  pub beginning : Beginning x
  pub zeros : (p : ℕ) → p < 2 → next_at x p ≡ 0
  pub no-window : x.core.size ≡ 0

module _ (i c : ℕ) (ik ck : List ℕ) (guarded : i ≡ 0 → ⊥) where
  abbrev made : Context
  made = context_with i c ik ck 0 0

  zero-next : (p : ℕ) → p < 2 → next_at made p ≡ 0
  zero-next zero h = refl
  zero-next (suc zero) h = refl
  zero-next (suc (suc p)) h = absurd (omega arith)

  fresh-started : unbuilt i c ≡ false → Started made
  unfolding wraps
  fresh-started e =
      record {
        beginning =
            record {
              good = record { two = refl; guarded = ne_eqb i 0 guarded };
              ok = record { built = e; small = omega arith; counts = λ p h. omega (arith, zero-next p h) };
              shut = λ p h. starts.restored _;
            };
        zeros = zero-next;
        no-window = refl;
      }

pub started : (x : Context) → Fresh x → Started x
unfolding new_of
started x f =
    let l : List ℕ = 13 when unbuilt f.integrity f.ciphering ∷ [] in
    let a = accepted (first l) (made f.integrity f.ciphering f.integrity_key f.ciphering_key f.guarded) refused_context x f.made in
    let built = off 13 (unbuilt f.integrity f.ciphering) (omega arith) (passed l a.0 0) in
    subst Started a.1 (fresh-started f.integrity f.ciphering f.integrity_key f.ciphering_key f.guarded built)

-- a reselection away from null
shut-all : (s : ℕ) (f : ℕ → Record) → (x : Context) → x.records ≡ two (λ p. close_of s (f p)) → x.core.size ≡ s → (p : ℕ) → p < 2 → Shut (record_of p x)
shut-all s f x e q p h = subst Shut (sym (at_p p h)) (starts.closing (record { size = s; at = f p }))
  where
    at_p : (p : ℕ) → p < 2 → record_of p x ≡ act close (record { size = s; at = f p })
    at_p zero h = rw (e, q) refl
    at_p (suc zero) h = rw (e, q) refl
    at_p (suc (suc p)) h = absurd (omega arith)

away : (x : Context) (i : ℕ) → wraps x.core ≡ true → (i ≡ 0 → ⊥) → away_from_null x.core.integrity i ≡ true
unfolding away_from_null wraps
away x i e n = simp (e, ne_eqb i 0 n)

reselected-begins : (x : Context) → Reselected x → Beginning x
unfolding reselect_of kept_for closed wraps close_of
reselected-begins x r =
    let b = r.before in
    let size = b.core.size in
    let l : List ℕ = fault_of b ∷ 13 when unbuilt r.integrity r.ciphering ∷ [] in
    let made : Context =
    record { core = core_with r.integrity r.ciphering (key_of r.integrity_key) (key_of r.ciphering_key) size; records = two (λ p. close_of size (record_at b p)) } in
    let a = accepted (first l) made b x (rw (away b r.integrity r.null r.guarded) at r.made) in
    let q = passed l a.0 in
    let f = faultless b (q 0) in
    subst Beginning a.1
    record {
      good = record { two = refl; guarded = ne_eqb r.integrity 0 r.guarded };
      ok =
          record {
            built = off 13 (unbuilt r.integrity r.ciphering) (omega arith) (q 1);
            small = f.small;
            counts = by_place (next_at made) (f.counts 0 (omega arith)) (f.counts 1 (omega arith));
          };
      shut = shut-all size (record_at b) made refl refl;
    }

beginning : (x : Context) → Begins x → Beginning x
beginning x (fresh f) = (started x f).beginning
beginning x (reselected r) = reselected-begins x r

pub keeps : Keeps gives
keeps x b ks h = demand x (beginning x b) ks h
