-- Demand 3: an instance of what is kept over any calls.
use Prim.Native.Nat.{ℕ, zero, suc, ◌%◌, ◌<◌}
use mathlib.Core.Path.{◌≡◌, refl, sym, ap, ◌∙◌, subst}
use mathlib.Core.Bool.{Bool, true, false, cond}
use mathlib.Core.Logic.{◌⊎◌, inl, inr, ◌↔◌}
use mathlib.Core.List.{List, [], ◌∷◌, ◌++◌}
use native.Mathlib.Omega.{arith}
use lib.ListN.{get_or, replicate}
use lib.Dec.{eqb}
use borrow.Author.Tests.{eqb-true, ne_eqb}
use Rattle.aes.specs.Keys.{key_of}
use Rattle.count.specs.declared.Record.{Record}
use Rattle.count.specs.Rule.{close_of}
use Rattle.count.specs.Run.{close, act, Within, Shut, In, NoneTwice}
use Rattle.count.proofs.Starts.{starts}
use Rattle.refusals.specs.Order.{◌when◌, first}
use Rattle.refusals.proofs.Laws.{passed, off}
use Rattle.nas_core.specs.Keyed.{wraps, away_from_null}
use Rattle.nas_core.specs.Refusals.{unbuilt}
use Rattle.nas_5gs.specs.declared.Context.{Context}
use Rattle.nas_core.specs.declared.Direction.{Direction}
use Rattle.nas_core.specs.declared.Direction.TheVariants.{Uplink, Downlink}
use Rattle.nas_5gs.specs.declared.Connection.{Connection}
use Rattle.nas_5gs.specs.declared.Connection.TheVariants.{ThreeGpp, Non3Gpp}
use Rattle.nas_core.specs.ChangeAnswer.{Refused, Done}
use Rattle.nas_5gs.specs.Places.{direction_no, bearer_no, place_of, four, any_over, record_at, next_at, fault_of}
use Rattle.nas_5gs.specs.Leaves.{leaves}
use Rattle.nas_5gs.specs.Changes.{core_with, context_with, refused_context, new_of, restore_of, closed, kept_for, reselect_of}
use Rattle.nas_5gs.specs.Envelope.{envelope}
use Rattle.nas_5gs.specs.Eps.{eps_place, eps_message}
use Rattle.promise.specs.Kept.{Begins as BeginsAt}
use Rattle.promise.proofs.Acts.{same_keys}
use Rattle.promise.proofs.Kept.{kept}
use Rattle.promise.proofs.Messages.{opens}
use Rattle.promises.specs.Calls.{Call, set_window, reselect, seal5gs, seal_opaque, seal_initial, open5gs, seal_eps, open_eps, make_n1_to_s1, verify_n1_to_s1, make_s1_to_n1, verify_s1_to_n1, Outcome, gives, place_in, used_by, context_after, counts_used}
use Rattle.promises.specs.Words.{SameKeys, record_of, Ahead, Succeeds, Uses, TakenAs}
use Rattle.promises.specs.Demand3.{Fresh, Restored, Reselected, Begins, fresh, restored, reselected, PassedOver, NeverToNull, NeverReselected, InsideSince, StillOpen, Due, Opens, Demand3, Keeps}
use Rattle.promises.proofs.Shapes.{Reselects, acts}
use Rattle.promises.proofs.Passing.{alone, gives-passed, gives-refused}
use Rattle.promises.proofs.Soundness.{Good, trans-keys}
use Rattle.promises.proofs.Faults.{Faultless, by_place, none_over, faultless}
use Rattle.promises.proofs.Opening.{envelope-same, eps-same}
use Rattle.promises.proofs.Messages.{gives_guarded, guarded_machine, words, Guarded, keeping, five_gs, eps, messages, goes}

pub place-there : (d : Direction) (k : Connection) → place_of d k < 4
place-there Uplink ThreeGpp = omega arith
place-there Downlink ThreeGpp = omega arith
place-there Uplink Non3Gpp = omega arith
place-there Downlink Non3Gpp = omega arith

-- Where a run may begin: good, without fault, nothing open late in any record.
pub record Beginning (x : Context) : Type 0 where
  pub good : Good x
  pub ok : Faultless x
  pub shut : (p : ℕ) → p < 4 → Shut (record_of p x)

-- as long as no reselection to null is accepted, ours is the context that refuses each
agrees : (k : Call) (x : Context) → ((i c : ℕ) (ik ck : List ℕ) → k ≡ reselect i c ik ck → i ≡ 0 → Succeeds (gives k x) → ⊥)
    → ((gives k x).context ≡ (gives_guarded k x).context) × (used_by (gives k x).values ≡ used_by (gives_guarded k x).values)
agrees (set_window n) x never = (refl, refl)
agrees (reselect i c ik ck) x never = go (eqb i 0) refl
  where
    go : (t : Bool) → eqb i 0 ≡ t
        → let o = gives (reselect i c ik ck) x in
        let o' = cond t (alone 13 x []) (gives (reselect i c ik ck) x) in
        (o.context ≡ o'.context) × (used_by o.values ≡ used_by o'.values)
    go true e =
        let k = reselect i c ik ck in
        let q = gives-refused k x (λ z. never i c ik ck refl (eqb-true i 0 e) (ap (λ (o : Outcome). o.values.number) (gives-passed k x z))) in
        (ap (λ (o : Outcome). o.context) q, ap (λ (o : Outcome). used_by o.values) q)
    go false e = (refl, refl)
agrees (seal5gs t d k inner out) x never = (refl, refl)
agrees (seal_opaque t d k inner out) x never = (refl, refl)
agrees (seal_initial k w out) x never = (refl, refl)
agrees (open5gs d k m out out2) x never = (refl, refl)
agrees (seal_eps inner out) x never = (refl, refl)
agrees (open_eps m out) x never = (refl, refl)
agrees make_n1_to_s1 x never = (refl, refl)
agrees (verify_n1_to_s1 s) x never = (refl, refl)
agrees (make_s1_to_n1 ncc ngksi out) x never = (refl, refl)
agrees (verify_s1_to_n1 v) x never = (refl, refl)

-- so all that is said of its calls is said of ours
module _ (x : Context) where
  after_same : (ks : List Call) → NeverToNull gives x ks → context_after gives x ks ≡ context_after gives_guarded x ks
  after_same [] h = refl
  after_same (k ∷ ks) h =
      (agrees k (context_after gives x ks) h.0).0 ∙ ap (λ (y : Context). (gives_guarded k y).context) (after_same ks h.1)

  counts_same : (p : ℕ) (ks : List Call) → NeverToNull gives x ks → counts_used gives p x ks ≡ counts_used gives_guarded p x ks
  counts_same p [] h = refl
  counts_same p (k ∷ ks) h =
      let e = (agrees k (context_after gives x ks) h.0).1 ∙ ap (λ (y : Context). used_by (gives_guarded k y).values) (after_same ks h.1) in
      let r = counts_same p ks h.1 in
      λ i. cond (eqb p (place_in k)) (e i) [] ++ r i

  lain-same : (p : ℕ) (ks : List Call) → NeverToNull gives x ks → (c : ℕ) → InsideSince gives p x ks c ≡ InsideSince gives_guarded p x ks c
  lain-same p [] h c = refl
  lain-same p (k ∷ ks) h c =
      let e = after_same (k ∷ ks) h in
      let f = after_same ks h.1 in
      let r = lain-same p ks h.1 c in
      λ i. Within (record_of p (e i)) c × (PassedOver p (f i) (e i) c ⊎ r i)

  module _ (p : ℕ) (ks : List Call) (h : NeverToNull gives x ks) where
    still-same : (c : ℕ) → StillOpen gives p x ks c ≡ StillOpen gives_guarded p x ks c
    still-same c =
        let e = counts_same p ks h in
        let r = lain-same p ks h c in
        λ i. (In c (e i) → ⊥) × r i

    due-same : (fit : ℕ → Type 0) (c : ℕ) → Due gives p x ks fit c ≡ Due gives_guarded p x ks fit c
    due-same fit c =
        let e = after_same ks h in
        λ i. still-same c i ⊎ (Ahead p (e i) c × ((c' : ℕ) → still-same c' i → c' % 256 ≡ c % 256 → fit c' → ⊥))

    opens-same : (fit : ℕ → Type 0) (k : Call) (c : ℕ) (inner out : List ℕ)
        → let z = context_after gives_guarded x ks in
        (TakenAs (gives k z) c inner out ↔ Due gives_guarded p x ks fit c)
        → ((c' : ℕ) → StillOpen gives_guarded p x ks c' → c' % 256 ≡ c % 256 → fit c' → Uses (gives k z) c')
        → Opens gives p x ks fit (gives k (context_after gives x ks)) c inner out
    opens-same fit k c inner out taken other =
        let e = sym (after_same ks h) in
        record {
          exactly =
              subst (λ (y : Context). TakenAs (gives k y) c inner out ↔ Due gives p x ks fit c) e
              (subst (λ (D : Type 0). TakenAs (gives k (context_after gives_guarded x ks)) c inner out ↔ D) (sym (due-same fit c)) taken);
          exception = λ c' st q f.
              subst (λ (y : Context). Uses (gives k y) c') e (other c' (subst (λ (S : Type 0). S) (still-same c') st) q f);
        }

module _ (x : Context) (start : Beginning x) where
  begins : (p : ℕ) → p < 4 → BeginsAt guarded_machine Guarded p x
  begins p h =
      record {
        good = record { good = start.good; ok = start.ok };
        there = omega (arith, start.good.four);
        counted = start.ok.counts p h;
        shut = start.shut p h;
      }

  module _ (ks : List Call) (never : NeverToNull gives x ks) where
    abbrev here : Context
    here = context_after gives x ks

    pub guarded-now : Guarded here
    guarded-now =
        subst Guarded (sym (after_same x ks never)) (kept Context Call guarded_machine words Guarded keeping 0 x (begins 0 (omega arith)) ks).0

    there-too : SameKeys here.core (context_after gives_guarded x ks).core
    there-too = subst (λ (y : Context). SameKeys here.core y.core) (after_same x ks never) (same_keys here.core)

  -- the calls but reselection keep keys and codes
  keys-now : (ks : List Call) → NeverToNull gives x ks → NeverReselected gives x ks → SameKeys x.core (context_after gives x ks).core
  keys-now [] h n = same_keys x.core
  keys-now (k ∷ ks) h n =
      let y = context_after gives x ks in
      trans-keys x.core y.core (gives k y).context.core (keys-now ks h.1 n.1)
      (still (acts k y (guarded-now ks h.1).good.four).keys-after n.0)
    where
      still : SameKeys (context_after gives x ks).core (gives k (context_after gives x ks)).context.core ⊎ Reselects k (context_after gives x ks)
          → ((i c : ℕ) (ik ck : List ℕ) → k ≡ reselect i c ik ck → Unit {0} → Succeeds (gives k (context_after gives x ks)) → ⊥)
          → SameKeys (context_after gives x ks).core (gives k (context_after gives x ks)).context.core
      still (inl s) never = s
      still (inr r) never = absurd (never r.integrity r.ciphering r.integrity_key r.ciphering_key r.is tt r.succeeds)

  uplink : (d : Direction) → direction_no d ≡ 0 → d ≡ Uplink
  uplink Uplink e = refl
  uplink Downlink e = absurd (omega arith)

  demand : (ks : List Call) → NeverToNull gives x ks → Demand3 gives x ks
  demand ks h =
      let now = context_after gives x ks in
      let same-there = there-too ks h in
      record {
        once = λ d k.
            let p = place_of d k in
            subst NoneTwice (sym (counts_same x p ks h)) (kept Context Call guarded_machine words Guarded keeping p x (begins p (place-there d k)) ks).1.once;
        keys = keys-now ks h;
        opens = λ d k y t c inner out out2 same from to count some low room room2.
            let p = place_of d k in
            let o = opens Context Call guarded_machine words Guarded messages keeping goes x ks (five_gs now.core d k t inner out out2) c (begins p (place-there d k))
            record { same = same-there; type = (from, to); count = count; some = some; low = low; room = room; room2 = λ e f. room2 e (uplink d f) } in
            rw (envelope-same now.core y c (bearer_no k) (direction_no d) same t inner)
            (opens-same x p ks h _ (open5gs d k (envelope now.core t c (bearer_no k) (direction_no d) inner) out out2) c inner out (o.exactly refl) (o.exception refl));
        opens-eps = λ y c inner out same count some low room.
            let o = opens Context Call guarded_machine words Guarded messages keeping goes x ks (eps now.core inner out) c (begins eps_place (omega arith))
            record { same = same-there; type = tt; count = count; some = some; low = low; room = room; room2 = tt } in
            rw (eps-same now.core y c same inner)
            (opens-same x eps_place ks h _ (open_eps (eps_message now.core c inner) out) c inner out (o.exactly refl) (o.exception refl));
      }

-- what is accepted is what was made
accepted : (n : ℕ) (made bad x : Context) → cond (eqb n 0) (leaves Done made []) (leaves (Refused n) bad []) ≡ leaves Done x [] → (n ≡ 0) × (made ≡ x)
accepted n made bad x e = go (eqb n 0) refl e
  where
    go : (t : Bool) → eqb n 0 ≡ t → cond t (leaves Done made []) (leaves (Refused n) bad []) ≡ leaves Done x [] → (n ≡ 0) × (made ≡ x)
    go true q h = (eqb-true n 0 q, (cc))
    go false q h = let z : ◌≡◌ {A = ℕ} 0 1 = cc in absurd (omega arith)

-- a fresh context
pub record Started (x : Context) : Type 0 where
  pub beginning : Beginning x
  pub zeros : (p : ℕ) → p < 4 → next_at x p ≡ 0
  pub no-window : x.core.size ≡ 0

module _ (i c : ℕ) (ik ck : List ℕ) (guarded : i ≡ 0 → ⊥) where
  abbrev made : Context
  made = context_with i c ik ck (replicate 4 0)

  zero-next : (p : ℕ) → p < 4 → next_at made p ≡ 0
  zero-next zero h = refl
  zero-next (suc zero) h = refl
  zero-next (suc (suc zero)) h = refl
  zero-next (suc (suc (suc zero))) h = refl
  zero-next (suc (suc (suc (suc p)))) h = absurd (omega arith)

  fresh-started : unbuilt i c ≡ false → Started made
  unfolding wraps
  fresh-started e =
      record {
        beginning =
            record {
              good = record { four = refl; guarded = ne_eqb i 0 guarded };
              ok = record { built = e; small = omega arith; counts = λ p h. omega (arith, zero-next p h) };
              shut = λ p h. starts.restored _;
            };
        zeros = zero-next;
        no-window = refl;
      }

pub started : (x : Context) → Fresh x → Started x
unfolding new_of
started x f =
    let l : List ℕ = 13 when unbuilt f.integrity f.ciphering ∷ [] in
    let a = accepted (first l) (made f.integrity f.ciphering f.integrity_key f.ciphering_key f.guarded) refused_context x f.made in
    let built = off 13 (unbuilt f.integrity f.ciphering) (omega arith) (passed l a.0 0) in
    subst Started a.1 (fresh-started f.integrity f.ciphering f.integrity_key f.ciphering_key f.guarded built)

-- a restored context
restored-begins : (x : Context) → Restored x → Beginning x
unfolding restore_of wraps
restored-begins x r =
    let f : ℕ → ℕ = λ p. get_or r.next p 0 in
    let l : List ℕ = 13 when unbuilt r.integrity r.ciphering ∷ 16 when any_over (four f) ∷ [] in
    let made = context_with r.integrity r.ciphering r.integrity_key r.ciphering_key r.next in
    let a = accepted (first l) made refused_context x r.made in
    let q = passed l a.0 in
    let n = none_over (f 0) (f 1) (f 2) (f 3) (off 16 (any_over (four f)) (omega arith) (q 1)) in
    subst Beginning a.1
    record {
      good = record { four = refl; guarded = ne_eqb r.integrity 0 r.guarded };
      ok =
          record {
            built = off 13 (unbuilt r.integrity r.ciphering) (omega arith) (q 0);
            small = omega arith;
            counts = by_place (next_at made) n.0 n.1 n.2 n.3;
          };
      shut = λ p h. starts.restored _;
    }

-- a reselection away from null
shut-all : (s : ℕ) (f : ℕ → Record) → (x : Context) → x.records ≡ four (λ p. close_of s (f p)) → x.core.size ≡ s → (p : ℕ) → p < 4 → Shut (record_of p x)
shut-all s f x e q p h = subst Shut (sym (at_p p h)) (starts.closing (record { size = s; at = f p }))
  where
    at_p : (p : ℕ) → p < 4 → record_of p x ≡ act close (record { size = s; at = f p })
    at_p zero h = rw (e, q) refl
    at_p (suc zero) h = rw (e, q) refl
    at_p (suc (suc zero)) h = rw (e, q) refl
    at_p (suc (suc (suc zero))) h = rw (e, q) refl
    at_p (suc (suc (suc (suc p)))) h = absurd (omega arith)

away : (x : Context) (i : ℕ) → wraps x.core ≡ true → (i ≡ 0 → ⊥) → away_from_null x.core.integrity i ≡ true
unfolding away_from_null wraps
away x i e n = simp (e, ne_eqb i 0 n)

reselected-begins : (x : Context) → Reselected x → Beginning x
unfolding reselect_of kept_for closed wraps close_of
reselected-begins x r =
    let b = r.before in
    let size = b.core.size in
    let l : List ℕ = fault_of b ∷ 13 when unbuilt r.integrity r.ciphering ∷ [] in
    let made : Context =
    record { core = core_with r.integrity r.ciphering (key_of r.integrity_key) (key_of r.ciphering_key) size; records = four (λ p. close_of size (record_at b p)) } in
    let a = accepted (first l) made b x (rw (away b r.integrity r.null r.guarded) at r.made) in
    let q = passed l a.0 in
    let f = faultless b (q 0) in
    subst Beginning a.1
    record {
      good = record { four = refl; guarded = ne_eqb r.integrity 0 r.guarded };
      ok =
          record {
            built = off 13 (unbuilt r.integrity r.ciphering) (omega arith) (q 1);
            small = f.small;
            counts = by_place (next_at made) (f.counts 0 (omega arith)) (f.counts 1 (omega arith)) (f.counts 2 (omega arith)) (f.counts 3 (omega arith));
          };
      shut = shut-all size (record_at b) made refl refl;
    }

pub beginning : (x : Context) → Begins x → Beginning x
beginning x (fresh f) = (started x f).beginning
beginning x (restored r) = restored-begins x r
beginning x (reselected r) = reselected-begins x r

pub keeps : Keeps gives
keeps x b ks h = demand x (beginning x b) ks h
