-- The calls on an EPS context: each does one act on one record, and answers the COUNT that it used.
use Prim.Native.Nat.{ℕ}
use mathlib.Core.Path.{◌≡◌, refl}
use mathlib.Core.Bool.{Bool, true, false, cond}
use mathlib.Core.Logic.{◌⊎◌, inl, inr, ⊎_elim}
use mathlib.Core.List.{List, [], ◌∷◌, map}
use native.Mathlib.Omega.{arith}
use lib.ListN.{length, get_or, set, drop}
use lib.Dec.{eqb, ltb}
use borrow.Author.Tests.{eqb-true}
use Rattle.aes.specs.Keys.{key_of}
use Rattle.count.specs.declared.Record.{Record}
use Rattle.count.specs.Rule.{Opening, resize_of, close_of, use_late, distance_of}
use Rattle.count.specs.Run.{Act, stay, resize, close, act, act_of, used}
use Rattle.count.specs.Machine.{records_after}
use Rattle.refusals.specs.Order.{◌when◌, first, refused_or}
use Rattle.refusals.proofs.Laws.{passed, off}
use Rattle.nas_core.specs.Types.{ciphers}
use Rattle.nas_core.specs.Refusals.{unbuilt}
use Rattle.nas_core.specs.Keyed.{wraps, payload, away_from_null, core_with}
use Rattle.nas_core.specs.Verify.{verify_of, advanced}
use Rattle.nas_eps.specs.declared.Context.{Context}
use Rattle.nas_core.specs.ChangeAnswer as change
use Rattle.nas_core.specs.UseAnswer as use'
use Rattle.nas_eps.specs.OpenAnswer.{OpenAnswer}
use Rattle.nas_eps.specs.OpenAnswer as open'
use Rattle.nas_eps.specs.Places.{uplink, place_of, two, record_at, fault_of, used as used_ahead, used_late}
use Rattle.nas_eps.specs.Leaves.{Leaves, leaves, over, use_next, received, refusal, change_values, use_values, open_values}
use Rattle.nas_eps.specs.Changes.{closed, kept_for, reselect_of, window_of, resized}
use Rattle.nas_eps.specs.Octets.{bearer, message, type_of, is_request, service_request, identifier_of, request_as}
use Rattle.nas_eps.specs.Seal.{seal_refusal, sent, seal_of, request_refusal, service_request_of}
use Rattle.nas_eps.specs.Open.{open_refusal, handed, opened, requested, open_of}
use Rattle.promise.proofs.Acts.{unless, same_keys, Holding, next as next_in, Acts as ActsOn, refused, ahead, below, first-refused, by-opening, sends as sends_by}
use Rattle.promises_eps.specs.Calls.{Call, set_window, reselect, seal_message, seal_request, open_message, Outcome, outcome, gives, place_in, used_by}
use Rattle.promises_eps.specs.Words.{SameKeys, record_of}

-- an EPS context by its core and records
pub used-records : (x : Context) (p c : ℕ) → (used_ahead x p c).records ≡ set x.records p (advanced x.core (record_at x p) c)
unfolding used_ahead
used-records x p c = refl

pub late-records : (x : Context) (p c : ℕ) → (used_late x p c).records ≡ set x.records p (use_late (record_at x p) c)
unfolding used_late
late-records x p c = refl

pub used-core : (x : Context) (p c : ℕ) → (used_ahead x p c).core ≡ x.core
unfolding used_ahead
used-core x p c = refl

pub late_core : (x : Context) (p c : ℕ) → (used_late x p c).core ≡ x.core
unfolding used_late
late_core x p c = refl

abbrev pub holding : Holding Context
holding =
    record {
      core = λ x. x.core;
      records = λ x. x.records;
      ahead = used_ahead;
      late = used_late;
      ahead-core = used-core;
      late_core = late_core;
      ahead-records = used-records;
      late-records = late-records;
    }

abbrev pub Acts : Context → ℕ → Act → Outcome → Type 0
Acts x p a o = ActsOn holding x p a o

-- the next COUNT used
abbrev pub next : Context → ℕ → Act
next x p = next_in holding x p

-- an open call, whichever message it is given: what it finds, answers and hands over
module _ (x : Context) (p : ℕ) (m : List ℕ) where
  abbrev pub found : Opening
  found = cond (is_request m) (request_as x.core (record_at x p) m) (verify_of x.core (record_at x p) bearer p 1 m)

  abbrev pub payload_of : ℕ → List ℕ
  payload_of c = payload x.core (ciphers (type_of m)) c bearer p (drop 6 m)

  abbrev pub plain : ℕ → List ℕ
  plain c = cond (is_request m) [] (payload_of c)

  abbrev pub answer_as : Bool → ℕ → OpenAnswer
  answer_as t c =
      cond t (open'.ServiceRequest c (distance_of (record_at x p) c) (identifier_of m))
      (open'.Accepted c (distance_of (record_at x p) c) (length (payload_of c)) (type_of m))

  abbrev pub opened_as : ℕ → OpenAnswer
  opened_as c = answer_as (is_request m) c

  abbrev pub taken : List ℕ → Leaves OpenAnswer
  taken out = received x p (λ n. leaves (open'.Refused n) x out) (λ c y. leaves (opened_as c) y (over (plain c) out)) found

  pub taken_is : (out : List ℕ) → cond (is_request m) (requested x p m out) (opened x p m out) ≡ taken out
  unfolding requested opened handed
  taken_is out = go (is_request m)
    where
      go : (t : Bool)
          → cond t
          (received x p (λ n. leaves (open'.Refused n) x out)
          (λ c y. leaves (open'.ServiceRequest c (distance_of (record_at x p) c) (identifier_of m)) y out) (request_as x.core (record_at x p) m))
          (received x p (λ n. leaves (open'.Refused n) x out) (λ c y. handed (type_of m) (payload_of c) out c (distance_of (record_at x p) c) y)
          (verify_of x.core (record_at x p) bearer p 1 m))
          ≡ received x p (λ n. leaves (open'.Refused n) x out) (λ c y. leaves (answer_as t c) y (over (cond t [] (payload_of c)) out))
          (cond t (request_as x.core (record_at x p) m) (verify_of x.core (record_at x p) bearer p 1 m))
      go true = refl
      go false = refl

-- the refusals that come before an act
abbrev pub refusal_of : Call → Context → ℕ
refusal_of (set_window n) x = first (fault_of x ∷ 14 when (ltb 64 n) ∷ [])
refusal_of (reselect i c ik ck) x = first (fault_of x ∷ 13 when unbuilt i c ∷ [])
refusal_of (seal_message t d inner out) x = seal_refusal x t (place_of d) inner (length out)
refusal_of (seal_request i out) x = request_refusal x i (length out)
refusal_of (open_message d m out) x = open_refusal x (place_of d) m (length out)

-- the act of a call that they let pass
abbrev pub passing : Call → Context → Act
passing (set_window n) x = resize n
passing (reselect i c ik ck) x = cond (away_from_null x.core.integrity i) close stay
passing (seal_message t d inner out) x = next x (place_of d)
passing (seal_request i out) x = next x uplink
passing (open_message d m out) x = act_of (wraps x.core) (found x (place_of d) m)

abbrev pub does : Call → Context → Act
does k x = unless (refusal_of k x) (passing k x)

resize-two : (f : Record → Record) (none : Record) (l : List Record) → length l ≡ 2 → two (λ p. f (get_or l p none)) ≡ map f l
resize-two f none [] h = absurd (omega arith)
resize-two f none (a ∷ []) h = absurd (omega arith)
resize-two f none (a ∷ b ∷ []) h = refl
resize-two f none (a ∷ b ∷ c ∷ l) h = absurd (omega arith)

sends : (x : Context) (p n : ℕ) (made : ℕ → List ℕ) (out : List ℕ)
    → Acts x p (unless n (next x p)) (outcome use_values (refused_or n (λ k. leaves (use'.Refused k) x out) (use_next x p made out)))
unfolding use_next
sends x p n made out = sends_by holding x p use_values use'.Refused use'.Used (λ k. refl) (λ c w. refl) n made out

window-acts : (x : Context) (n : ℕ) → length x.records ≡ 2 → Acts x 2 (does (set_window n) x) (gives (set_window n) x)
unfolding window_of resized
window-acts x n h =
    first-refused holding x 2 change_values (first (fault_of x ∷ 14 when (ltb 64 n) ∷ [])) (λ k. leaves (change.Refused k) x []) (leaves change.Done (resized x n) []) (resize n)
    (λ k. refused holding x 2 (refusal k) [] refl)
    record {
      keys-after = record { integrity = refl; ciphering = refl; integrity-key = refl; ciphering-key = refl };
      size-after = refl;
      records-after = resize-two (resize_of x.core.size n) (record { next = 0; bits = 0 }) x.records h;
      counts = refl;
    }

module _ (x : Context) (p : ℕ) (m out : List ℕ) where
  abbrev not_opened : ℕ → Leaves OpenAnswer
  not_opened k = leaves (open'.Refused k) x out

  open-refused : (k : ℕ) → Acts x p stay (outcome open_values (not_opened k))
  open-refused k = refused holding x p (refusal k) out refl

  counted : (c : ℕ) (t : Bool) → used_by (open_values (answer_as x p m t c)) ≡ c ∷ []
  counted c true = refl
  counted c false = refl

  open-acts : (n : ℕ) → Acts x p (unless n (act_of (wraps x.core) (found x p m))) (outcome open_values (refused_or n not_opened (taken x p m out)))
  open-acts n =
      first-refused holding x p open_values n not_opened (taken x p m out) (act_of (wraps x.core) (found x p m)) open-refused
      (by-opening holding x p open_values not_opened (λ c y. leaves (opened_as x p m c) y (over (plain x p m c) out)) (found x p m) open-refused
      (λ c. ahead holding x p (open_values (opened_as x p m c)) c (over (plain x p m c) out) (counted c (is_request m)))
      (λ c. below holding x p (open_values (opened_as x p m c)) c (over (plain x p m c) out) (counted c (is_request m))))

-- a reselection that is not refused: other keys and codes
pub record Reselects (k : Call) (x : Context) : Type 0 where
  pub integrity : ℕ
  pub ciphering : ℕ
  pub integrity_key : List ℕ
  pub ciphering_key : List ℕ
  pub is : k ≡ reselect integrity ciphering integrity_key ciphering_key
  pub built : unbuilt integrity ciphering ≡ false
  pub succeeds : (gives k x).values.number ≡ 0
  pub core-after : (gives k x).context.core ≡ core_with integrity ciphering (key_of integrity_key) (key_of ciphering_key) x.core.size

-- what a call makes of a context
pub record Acted (k : Call) (x : Context) : Type 0 where
  pub keys-after : SameKeys x.core (gives k x).context.core ⊎ Reselects k x
  pub size-after : (gives k x).context.core.size ≡ (act (does k x) (record_of (place_in k) x)).size
  pub records-after : (gives k x).context.records ≡ records_after (place_in k) (does k x) x.core.size x.records
  pub counts : used_by (gives k x).values ≡ used (does k x)

kept-keys : (k : Call) (x : Context) → Acts x (place_in k) (does k x) (gives k x) → Acted k x
kept-keys k x a =
    record { keys-after = inl a.keys-after; size-after = a.size-after; records-after = a.records-after; counts = a.counts }

-- a reselection that is not refused is to codes that are built
built-by : (x : Context) (i c : ℕ) → eqb (first (fault_of x ∷ 13 when unbuilt i c ∷ [])) 0 ≡ true → unbuilt i c ≡ false
built-by x i c e =
    off 13 (unbuilt i c) (omega arith)
    (passed (fault_of x ∷ 13 when unbuilt i c ∷ []) (eqb-true (first (fault_of x ∷ 13 when unbuilt i c ∷ [])) 0 e) 1)

reselect-acted : (i c : ℕ) (ik ck : List ℕ) (x : Context) → length x.records ≡ 2 → Acted (reselect i c ik ck) x
unfolding reselect_of kept_for closed
reselect-acted i c ik ck x h =
    let t = go (eqb (refusal_of (reselect i c ik ck) x) 0) (away_from_null x.core.integrity i) refl in
    record {
      keys-after =
          ⊎_elim inl
          (λ r.
          inr record {
            integrity = i;
            ciphering = c;
            integrity_key = ik;
            ciphering_key = ck;
            is = refl;
            built = r.0;
            succeeds = r.1;
            core-after = r.2;
          })
          t.0;
      size-after = t.1;
      records-after = t.2;
      counts = t.3;
    }
  where
    go : (t b : Bool) → eqb (refusal_of (reselect i c ik ck) x) 0 ≡ t
        → let o = outcome change_values
        (cond t
        (leaves change.Done (record { core = core_with i c (key_of ik) (key_of ck) x.core.size; records = (cond b (closed x) x).records }) [])
        (leaves (change.Refused (refusal_of (reselect i c ik ck) x)) x [])) in
        let a = cond t (cond b close stay) stay in
        (SameKeys x.core o.context.core
        ⊎ ((unbuilt i c ≡ false) × (o.values.number ≡ 0) × (o.context.core ≡ core_with i c (key_of ik) (key_of ck) x.core.size)))
        × (o.context.core.size ≡ (act a (record_of 2 x)).size)
        × (o.context.records ≡ records_after 2 a x.core.size x.records)
        × (used_by o.values ≡ used a)
    go true true e = (inr (built-by x i c e, refl, refl), refl, resize-two (close_of x.core.size) (record { next = 0; bits = 0 }) x.records h, refl)
    go true false e = (inr (built-by x i c e, refl, refl), refl, refl, refl)
    go false b e = (inl (same_keys x.core), refl, refl, refl)

pub acts : (k : Call) (x : Context) → length x.records ≡ 2 → Acted k x
unfolding seal_of sent service_request_of open_of
acts (set_window n) x h = kept-keys (set_window n) x (window-acts x n h)
acts (reselect i c ik ck) x h = reselect-acted i c ik ck x h
acts (seal_message t d inner out) x h = kept-keys (seal_message t d inner out) x (sends x (place_of d) (seal_refusal x t (place_of d) inner (length out)) (λ c. message x.core t c (place_of d) inner) out)
acts (seal_request i out) x h = kept-keys (seal_request i out) x (sends x uplink (request_refusal x i (length out)) (λ c. service_request x.core i c) out)
acts (open_message d m out) x h =
    kept-keys (open_message d m out) x (rw (taken_is x (place_of d) m out) (open-acts x (place_of d) m out (open_refusal x (place_of d) m (length out))))
