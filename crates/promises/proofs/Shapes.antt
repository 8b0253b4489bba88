-- The calls on a 5GS context: each does one act on one record, and answers the COUNT that it used.
use Rattle.std.specs.Prelude.{Ok, Err}
use Prim.Native.Nat.{ℕ, ◌%◌}
use mathlib.Core.Path.{◌≡◌, refl, ap, ◌∙◌}
use mathlib.Core.Bool.{Bool, true, false, cond}
use mathlib.Core.Logic.{◌⊎◌, inl, inr, ⊎_elim}
use mathlib.Core.List.{List, [], ◌∷◌, map}
use native.Mathlib.Omega.{arith}
use lib.ListN.{length, get_or, set, drop}
use lib.Dec.{eqb, ltb}
use Rattle.aes.specs.Keys.{key_of}
use Rattle.count.specs.declared.Record.{Record}
use Rattle.count.specs.Rule.{Opening, resize_of, close_of, use_late, forward_only, distance_of}
use Rattle.count.specs.declared.Taken.TheVariants.{Late, Forward}
use Rattle.count.specs.declared.Missed.TheVariants.{NoCandidate, WrongCode}
use Rattle.count.specs.Run.{Act, stay, resize, close, act, act_of, used}
use borrow.Author.Tests.{eqb-true}
use Rattle.count.specs.Machine.{records_after}
use Rattle.refusals.specs.Order.{◌when◌, first, refused_or}
use Rattle.refusals.proofs.Laws.{passed, off}
use Rattle.nas_core.specs.Refusals.{unbuilt}
use Rattle.nas_core.specs.Keyed.{wraps, payload, away_from_null}
use Rattle.nas_core.specs.Verify.{verify_of, advanced}
use Rattle.look.specs.Look.{look_of}
use Rattle.initial.specs.Inside.{Hidden}
use Rattle.envelope.specs.Initial.{initial_envelope, beside_of, beside}
use Rattle.nas_5gs.specs.declared.Context.{Context}
use Rattle.nas_core.specs.declared.Direction.{Direction}
use Rattle.nas_core.specs.declared.Direction.TheVariants.{Uplink}
use Rattle.nas_5gs.specs.declared.Connection.{Connection}
use Rattle.nas_core.specs.ChangeAnswer as change
use Rattle.nas_core.specs.UseAnswer as use'
use Rattle.nas_5gs.specs.OpenAnswer.{OpenAnswer}
use Rattle.nas_5gs.specs.OpenAnswer as open'
use Rattle.nas_5gs.specs.EpsOpenAnswer.{EpsOpenAnswer}
use Rattle.nas_5gs.specs.EpsOpenAnswer as eps
use Rattle.nas_5gs.specs.OctetAnswer as octet
use Rattle.nas_5gs.specs.VerifyAnswer.{VerifyAnswer}
use Rattle.nas_5gs.specs.VerifyAnswer as verify
use Rattle.nas_5gs.specs.Places.{direction_no, bearer_no, place_of, four, record_at, next_at, fault_of, used as used_ahead, used_late}
use Rattle.nas_5gs.specs.Leaves.{Leaves, leaves, leaves_two, over, use_next, received, refusal, change_values, use_values, open_values, eps_open_values, octet_values, verify_values}
use Rattle.nas_5gs.specs.Changes.{core_with, closed, kept_for, reselect_of, window_of, resized}
use Rattle.nas_5gs.specs.Envelope.{ciphers, envelope}
use Rattle.nas_5gs.specs.Seal.{seal_refusal, opaque_refusal, sent, seal_of, seal_opaque_of}
use Rattle.nas_5gs.specs.Initial.{initial_refusal, sent_initial, initial_of}
use Rattle.nas_5gs.specs.Open.{type_of, open_refusal, room_for, inside_number, open_answer, handed, plain_of, opened, open_of}
use Rattle.nas_5gs.specs.Eps.{eps_place, eps_bearer, eps_direction, not_eps, eps_message, seal_eps_refusal, seal_eps_of, open_eps_refusal, eps_answer, eps_handed, eps_opened, open_eps_of}
use Rattle.nas_5gs.specs.Containers.{container_place, none_left, last_octet, s1_to_n1, n1_to_s1_of, verify_n1_to_s1_of, s1_to_n1_refusal, s1_to_n1_of, verify_s1_to_n1_refusal, verify_s1_to_n1_of}
use Rattle.promises.specs.Calls.{Call, set_window, reselect, seal5gs, seal_opaque, seal_initial, open5gs, seal_eps, open_eps, make_n1_to_s1, verify_n1_to_s1, make_s1_to_n1, verify_s1_to_n1, Outcome, outcome, first_of, second_of, gives, place_in, used_by}
use Rattle.promises.specs.Words.{SameKeys, record_of}
use Rattle.promise.proofs.Acts.{unless, same_keys, Holding, next as next_in, Acts as ActsOn, refused, ahead, below, first-refused, by-opening, sends as sends_by}

-- a 5GS context by its core and records
pub used-records : (x : Context) (p c : ℕ) → (used_ahead x p c).records ≡ set x.records p (advanced x.core (record_at x p) c)
unfolding used_ahead
used-records x p c = refl

pub late-records : (x : Context) (p c : ℕ) → (used_late x p c).records ≡ set x.records p (use_late (record_at x p) c)
unfolding used_late
late-records x p c = refl

pub used-core : (x : Context) (p c : ℕ) → (used_ahead x p c).core ≡ x.core
unfolding used_ahead
used-core x p c = refl

pub late_core : (x : Context) (p c : ℕ) → (used_late x p c).core ≡ x.core
unfolding used_late
late_core x p c = refl

abbrev pub holding : Holding Context
holding =
    record {
      core = λ x. x.core;
      records = λ x. x.records;
      ahead = used_ahead;
      late = used_late;
      ahead-core = used-core;
      late_core = late_core;
      ahead-records = used-records;
      late-records = late-records;
    }

abbrev pub Acts : Context → ℕ → Act → Outcome → Type 0
Acts x p a o = ActsOn holding x p a o

-- the next COUNT used
abbrev pub next : Context → ℕ → Act
next x p = next_in holding x p

-- the refusals that come before an act
abbrev pub refusal_of : Call → Context → ℕ
refusal_of (set_window n) x = first (fault_of x ∷ 14 when (ltb 64 n) ∷ [])
refusal_of (reselect i c ik ck) x = first (fault_of x ∷ 13 when unbuilt i c ∷ [])
refusal_of (seal5gs t d k inner out) x = seal_refusal x t (place_of d k) (direction_no d) inner (length out)
refusal_of (seal_opaque t d k inner out) x = opaque_refusal x t (place_of d k) inner (length out)
refusal_of (seal_initial k w out) x = initial_refusal x (place_of Uplink k) w (length out)
refusal_of (open5gs d k m out out2) x = open_refusal x m (room_for (type_of m) (direction_no d) (length out) (length out2))
refusal_of (seal_eps inner out) x = seal_eps_refusal x inner (length out)
refusal_of (open_eps m out) x = open_eps_refusal x m (length out)
refusal_of make_n1_to_s1 x = first (fault_of x ∷ 6 when none_left x ∷ [])
refusal_of (verify_n1_to_s1 s) x = fault_of x
refusal_of (make_s1_to_n1 ncc ngksi out) x = s1_to_n1_refusal x ncc ngksi (length out)
refusal_of (verify_s1_to_n1 v) x = verify_s1_to_n1_refusal x v

-- the act of a call that they let pass
abbrev pub passing : Call → Context → Act
passing (set_window n) x = resize n
passing (reselect i c ik ck) x = cond (away_from_null x.core.integrity i) close stay
passing (seal5gs t d k inner out) x = next x (place_of d k)
passing (seal_opaque t d k inner out) x = next x (place_of d k)
passing (seal_initial k w out) x = next x (place_of Uplink k)
passing (open5gs d k m out out2) x =
    act_of (wraps x.core) (verify_of x.core (record_at x (place_of d k)) (bearer_no k) (direction_no d) 2 m)
passing (seal_eps inner out) x = next x eps_place
passing (open_eps m out) x = act_of (wraps x.core) (verify_of x.core (record_at x eps_place) eps_bearer eps_direction 1 m)
passing make_n1_to_s1 x = next x container_place
passing (verify_n1_to_s1 s) x = act_of (wraps x.core) (forward_only 8 (wraps x.core) (λ c. true) (record_at x container_place) s)
passing (make_s1_to_n1 ncc ngksi out) x = next x container_place
passing (verify_s1_to_n1 v) x = next x container_place

abbrev pub does : Call → Context → Act
does k x = unless (refusal_of k x) (passing k x)

resize-four : (f : Record → Record) (none : Record) (l : List Record) → length l ≡ 4 → four (λ p. f (get_or l p none)) ≡ map f l
resize-four f none [] h = absurd (omega arith)
resize-four f none (a ∷ []) h = absurd (omega arith)
resize-four f none (a ∷ b ∷ []) h = absurd (omega arith)
resize-four f none (a ∷ b ∷ c ∷ []) h = absurd (omega arith)
resize-four f none (a ∷ b ∷ c ∷ d ∷ []) h = refl
resize-four f none (a ∷ b ∷ c ∷ d ∷ e ∷ l) h = absurd (omega arith)

open-counts : (c f w t n s : ℕ) (b : Bool) → used_by (open_values (cond b (open'.Accepted c f w t s) (open'.Content c f w t n))) ≡ c ∷ []
open-counts c f w t n s true = refl
open-counts c f w t n s false = refl

eps-counts : (c f w : ℕ) (b : Bool) → used_by (eps_open_values (cond b (eps.Content c f w 12) (eps.Accepted c f w))) ≡ c ∷ []
eps-counts c f w true = refl
eps-counts c f w false = refl

sends : (x : Context) (p n : ℕ) (made : ℕ → List ℕ) (out : List ℕ)
    → Acts x p (unless n (next x p)) (outcome use_values (refused_or n (λ k. leaves (use'.Refused k) x out) (use_next x p made out)))
unfolding use_next
sends x p n made out = sends_by holding x p use_values use'.Refused use'.Used (λ k. refl) (λ c w. refl) n made out

window-acts : (x : Context) (n : ℕ) → length x.records ≡ 4 → Acts x 4 (does (set_window n) x) (gives (set_window n) x)
unfolding window_of resized
window-acts x n h =
    first-refused holding x 4 change_values (first (fault_of x ∷ 14 when (ltb 64 n) ∷ [])) (λ k. leaves (change.Refused k) x []) (leaves change.Done (resized x n) []) (resize n)
    (λ k. refused holding x 4 (refusal k) [] refl)
    record {
      keys-after = record { integrity = refl; ciphering = refl; integrity-key = refl; ciphering-key = refl };
      size-after = refl;
      records-after = resize-four (resize_of x.core.size n) (record { next = 0; bits = 0 }) x.records h;
      counts = refl;
    }

-- a part of what is left, by a refusal that comes first and by what an opening finds
of-refused : {R S : Type 0} (f : R → S) (n : ℕ) (r : ℕ → R) (l : R) → f (refused_or n r l) ≡ refused_or n (λ k. f (r k)) (f l)
of-refused f n r l = go (eqb n 0)
  where
    go : (t : Bool) → f (cond t l (r n)) ≡ cond t (f l) (f (r n))
    go true = refl
    go false = refl

of-received : {R S : Type 0} (f : R → S) (x : Context) (p : ℕ) (r : ℕ → R) (h : ℕ → Context → R) (o : Opening)
    → f (received x p r h o) ≡ received x p (λ n. f (r n)) (λ c y. f (h c y)) o
of-received f x p r h (Err NoCandidate) = refl
of-received f x p r h (Err WrongCode) = refl
of-received f x p r h (Ok (Late c)) = refl
of-received f x p r h (Ok (Forward c)) = refl

-- 5GS open
module _ (x : Context) (p b d : ℕ) (m out : List ℕ) where
  abbrev pub found : Opening
  found = verify_of x.core (record_at x p) b d 2 m

  abbrev pub plain : ℕ → List ℕ
  plain c = payload x.core (ciphers (type_of m)) c b d (drop 7 m)

  abbrev pub look : ℕ → ℕ
  look c = look_of (type_of m) d (plain c)

  -- what is inside it
  abbrev pub inside : ℕ → Hidden
  inside c = beside_of x.core (type_of m) c b d (plain c)

  abbrev pub carried : ℕ → ℕ
  carried c = inside_number (look c) (inside c)

  abbrev pub opened_as : ℕ → OpenAnswer
  opened_as c = open_answer c (distance_of (record_at x p) c) (length (plain c)) (type_of m) (carried c) (length (beside (inside c)))

  abbrev pub not_opened : ℕ → Leaves OpenAnswer
  not_opened k = leaves (open'.Refused k) x out

  -- all that it leaves but the second output
  abbrev pub opened_first : Leaves OpenAnswer
  opened_first = received x p not_opened (λ c y. leaves (opened_as c) y (over (plain c) out)) found

  open-refused : (k : ℕ) → Acts x p stay (outcome open_values (not_opened k))
  open-refused k = refused holding x p (refusal k) out refl

  as-counted : (c : ℕ) → used_by (open_values (opened_as c)) ≡ c ∷ []
  as-counted c = open-counts c (distance_of (record_at x p) c) (length (plain c)) (type_of m) (carried c) (length (beside (inside c))) (eqb (carried c) 0)

  open-acts : (n : ℕ) → Acts x p (unless n (act_of (wraps x.core) found)) (outcome open_values (refused_or n not_opened opened_first))
  open-acts n =
      first-refused holding x p open_values n not_opened opened_first (act_of (wraps x.core) found) open-refused
      (by-opening holding x p open_values not_opened (λ c y. leaves (opened_as c) y (over (plain c) out)) found open-refused
      (λ c. ahead holding x p (open_values (opened_as c)) c (over (plain c) out) (as-counted c))
      (λ c. below holding x p (open_values (opened_as c)) c (over (plain c) out) (as-counted c)))

  -- what then stands in the second output
  abbrev pub opened_second : List ℕ → List ℕ
  opened_second out2 = received x p (λ n. out2) (λ c y. over (beside (inside c)) out2) found

  first-opened : (out2 : List ℕ) → first_of (opened x p b d m out out2) ≡ opened_first
  unfolding opened handed plain_of
  first-opened out2 = of-received first_of x p (λ n. leaves_two (open'.Refused n) x out out2) (λ c y. leaves_two (opened_as c) y (over (plain c) out) (over (beside (inside c)) out2)) found

  second-opened : (out2 : List ℕ) → second_of (opened x p b d m out out2) ≡ opened_second out2
  unfolding opened handed plain_of
  second-opened out2 = of-received second_of x p (λ n. leaves_two (open'.Refused n) x out out2) (λ c y. leaves_two (opened_as c) y (over (plain c) out) (over (beside (inside c)) out2)) found

module _ (x : Context) (d : Direction) (k : Connection) (m out out2 : List ℕ) where
  abbrev refusal5gs : ℕ
  refusal5gs = open_refusal x m (room_for (type_of m) (direction_no d) (length out) (length out2))

  pub first-open : first_of (open_of x d k m out out2)
      ≡ refused_or refusal5gs (not_opened x (place_of d k) (bearer_no k) (direction_no d) m out) (opened_first x (place_of d k) (bearer_no k) (direction_no d) m out)
  unfolding open_of
  first-open =
      of-refused first_of refusal5gs (λ n. leaves_two (open'.Refused n) x out out2) (opened x (place_of d k) (bearer_no k) (direction_no d) m out out2)
      ∙ ap (refused_or refusal5gs (not_opened x (place_of d k) (bearer_no k) (direction_no d) m out)) (first-opened x (place_of d k) (bearer_no k) (direction_no d) m out out2)

  pub second-open : second_of (open_of x d k m out out2) ≡ refused_or refusal5gs (λ n. out2) (opened_second x (place_of d k) (bearer_no k) (direction_no d) m out out2)
  unfolding open_of
  second-open =
      of-refused second_of refusal5gs (λ n. leaves_two (open'.Refused n) x out out2) (opened x (place_of d k) (bearer_no k) (direction_no d) m out out2)
      ∙ ap (refused_or refusal5gs (λ n. out2)) (second-opened x (place_of d k) (bearer_no k) (direction_no d) m out out2)

-- EPS open
module _ (x : Context) (m out : List ℕ) where
  abbrev pub eps_found : Opening
  eps_found = verify_of x.core (record_at x eps_place) eps_bearer eps_direction 1 m

  abbrev pub eps_as : ℕ → EpsOpenAnswer
  eps_as c = eps_answer c (distance_of (record_at x eps_place) c) (length (drop 6 m)) (not_eps (drop 6 m))

  abbrev eps_not_opened : ℕ → Leaves EpsOpenAnswer
  eps_not_opened k = leaves (eps.Refused k) x out

  eps-refused : (k : ℕ) → Acts x eps_place stay (outcome eps_open_values (eps_not_opened k))
  eps-refused k = refused holding x eps_place (refusal k) out refl

  eps-counted : (c : ℕ) → used_by (eps_open_values (eps_as c)) ≡ c ∷ []
  eps-counted c = eps-counts c (distance_of (record_at x eps_place) c) (length (drop 6 m)) (not_eps (drop 6 m))

  eps-acts : (n : ℕ) → Acts x eps_place (unless n (act_of (wraps x.core) eps_found)) (outcome eps_open_values (refused_or n eps_not_opened (eps_opened x m out)))
  unfolding eps_opened eps_handed
  eps-acts n =
      first-refused holding x eps_place eps_open_values n eps_not_opened (eps_opened x m out) (act_of (wraps x.core) eps_found) eps-refused
      (by-opening holding x eps_place eps_open_values eps_not_opened (λ c y. eps_handed (drop 6 m) out c (distance_of (record_at x eps_place) c) y) eps_found eps-refused
      (λ c. ahead holding x eps_place (eps_open_values (eps_as c)) c (over (drop 6 m) out) (eps-counted c))
      (λ c. below holding x eps_place (eps_open_values (eps_as c)) c (over (drop 6 m) out) (eps-counted c)))

-- verifying the N1-to-S1 container
module _ (x : Context) (s : ℕ) where
  abbrev pub octet_found : Opening
  octet_found = forward_only 8 (wraps x.core) (λ c. true) (record_at x container_place) s

  abbrev pub octet_refused : ℕ → Leaves VerifyAnswer
  octet_refused k = leaves (verify.Refused k) x []

  abbrev pub octet_as : ℕ → VerifyAnswer
  octet_as c = verify.Verified c (distance_of (record_at x container_place) c)

  abbrev pub octet_used : ℕ → Context → Leaves VerifyAnswer
  octet_used c y = leaves (octet_as c) y []

  octet-refused : (k : ℕ) → Acts x container_place stay (outcome verify_values (octet_refused k))
  octet-refused k = refused holding x container_place (refusal k) [] refl

  octet-acts : Acts x container_place (does (verify_n1_to_s1 s) x) (gives (verify_n1_to_s1 s) x)
  unfolding verify_n1_to_s1_of
  octet-acts =
      first-refused holding x container_place verify_values (fault_of x) octet_refused (received x container_place octet_refused octet_used octet_found)
      (act_of (wraps x.core) octet_found) octet-refused
      (by-opening holding x container_place verify_values octet_refused octet_used octet_found octet-refused
      (λ c. ahead holding x container_place (verify_values (octet_as c)) c [] refl)
      (λ c. below holding x container_place (verify_values (octet_as c)) c [] refl))

made-acts : (x : Context) → Acts x container_place (does make_n1_to_s1 x) (gives make_n1_to_s1 x)
unfolding n1_to_s1_of
made-acts x =
    let c = next_at x container_place in
    first-refused holding x container_place octet_values (first (fault_of x ∷ 6 when none_left x ∷ [])) (λ k. leaves (octet.Refused k) x [])
    (last_octet x c) (next x container_place)
    (λ k. refused holding x container_place (refusal k) [] refl)
    (ahead holding x container_place (octet_values (octet.Made c (c % 256))) c [] refl)

-- a reselection that is not refused: other keys and codes
pub record Reselects (k : Call) (x : Context) : Type 0 where
  pub integrity : ℕ
  pub ciphering : ℕ
  pub integrity_key : List ℕ
  pub ciphering_key : List ℕ
  pub is : k ≡ reselect integrity ciphering integrity_key ciphering_key
  pub built : unbuilt integrity ciphering ≡ false
  pub succeeds : (gives k x).values.number ≡ 0
  pub core-after : (gives k x).context.core ≡ core_with integrity ciphering (key_of integrity_key) (key_of ciphering_key) x.core.size

-- What a call makes of a context, and of an answer. Keys and codes stay, but by a reselection.
pub record Acted (k : Call) (x : Context) : Type 0 where
  pub keys-after : SameKeys x.core (gives k x).context.core ⊎ Reselects k x
  pub size-after : (gives k x).context.core.size ≡ (act (does k x) (record_of (place_in k) x)).size
  pub records-after : (gives k x).context.records ≡ records_after (place_in k) (does k x) x.core.size x.records
  pub counts : used_by (gives k x).values ≡ used (does k x)

kept-keys : (k : Call) (x : Context) → Acts x (place_in k) (does k x) (gives k x) → Acted k x
kept-keys k x a =
    record { keys-after = inl a.keys-after; size-after = a.size-after; records-after = a.records-after; counts = a.counts }

-- a reselection that is not refused is to codes that are built
built-by : (x : Context) (i c : ℕ) → eqb (first (fault_of x ∷ 13 when unbuilt i c ∷ [])) 0 ≡ true → unbuilt i c ≡ false
built-by x i c e =
    off 13 (unbuilt i c) (omega arith)
    (passed (fault_of x ∷ 13 when unbuilt i c ∷ []) (eqb-true (first (fault_of x ∷ 13 when unbuilt i c ∷ [])) 0 e) 1)

reselect-acted : (i c : ℕ) (ik ck : List ℕ) (x : Context) → length x.records ≡ 4 → Acted (reselect i c ik ck) x
unfolding reselect_of kept_for closed
reselect-acted i c ik ck x h =
    let t = go (eqb (refusal_of (reselect i c ik ck) x) 0) (away_from_null x.core.integrity i) refl in
    record {
      keys-after =
          ⊎_elim inl
          (λ r.
          inr record {
            integrity = i;
            ciphering = c;
            integrity_key = ik;
            ciphering_key = ck;
            is = refl;
            built = r.0;
            succeeds = r.1;
            core-after = r.2;
          })
          t.0;
      size-after = t.1;
      records-after = t.2;
      counts = t.3;
    }
  where
    go : (t b : Bool) → eqb (refusal_of (reselect i c ik ck) x) 0 ≡ t
        → let o = outcome change_values
        (cond t
        (leaves change.Done (record { core = core_with i c (key_of ik) (key_of ck) x.core.size; records = (cond b (closed x) x).records }) [])
        (leaves (change.Refused (refusal_of (reselect i c ik ck) x)) x [])) in
        let a = cond t (cond b close stay) stay in
        (SameKeys x.core o.context.core
        ⊎ ((unbuilt i c ≡ false) × (o.values.number ≡ 0) × (o.context.core ≡ core_with i c (key_of ik) (key_of ck) x.core.size)))
        × (o.context.core.size ≡ (act a (record_of 4 x)).size)
        × (o.context.records ≡ records_after 4 a x.core.size x.records)
        × (used_by o.values ≡ used a)
    go true true e = (inr (built-by x i c e, refl, refl), refl, resize-four (close_of x.core.size) (record { next = 0; bits = 0 }) x.records h, refl)
    go true false e = (inr (built-by x i c e, refl, refl), refl, refl, refl)
    go false b e = (inl (same_keys x.core), refl, refl, refl)

pub acts : (k : Call) (x : Context) → length x.records ≡ 4 → Acted k x
unfolding seal_of seal_opaque_of sent initial_of sent_initial seal_eps_of open_eps_of s1_to_n1_of verify_s1_to_n1_of
acts (set_window n) x h = kept-keys (set_window n) x (window-acts x n h)
acts (reselect i c ik ck) x h = reselect-acted i c ik ck x h
acts (seal5gs t d k inner out) x h = kept-keys (seal5gs t d k inner out) x (sends x (place_of d k) (seal_refusal x t (place_of d k) (direction_no d) inner (length out)) (λ c. envelope x.core t c (bearer_no k) (direction_no d) inner) out)
acts (seal_opaque t d k inner out) x h = kept-keys (seal_opaque t d k inner out) x (sends x (place_of d k) (opaque_refusal x t (place_of d k) inner (length out)) (λ c. envelope x.core t c (bearer_no k) (direction_no d) inner) out)
acts (seal_initial k w out) x h = kept-keys (seal_initial k w out) x (sends x (place_of Uplink k) (initial_refusal x (place_of Uplink k) w (length out)) (λ c. initial_envelope x.core c (bearer_no k) w) out)
acts (open5gs d k m out out2) x h =
    kept-keys (open5gs d k m out out2) x
    (rw (first-open x d k m out out2) (open-acts x (place_of d k) (bearer_no k) (direction_no d) m out (refusal_of (open5gs d k m out out2) x)))
acts (seal_eps inner out) x h = kept-keys (seal_eps inner out) x (sends x eps_place (seal_eps_refusal x inner (length out)) (λ c. eps_message x.core c inner) out)
acts (open_eps m out) x h = kept-keys (open_eps m out) x (eps-acts x m out (open_eps_refusal x m (length out)))
acts make_n1_to_s1 x h = kept-keys make_n1_to_s1 x (made-acts x)
acts (verify_n1_to_s1 s) x h = kept-keys (verify_n1_to_s1 s) x (octet-acts x s)
acts (make_s1_to_n1 ncc ngksi out) x h = kept-keys (make_s1_to_n1 ncc ngksi out) x (sends x container_place (s1_to_n1_refusal x ncc ngksi (length out)) (λ c. s1_to_n1 x.core ncc ngksi) out)
acts (verify_s1_to_n1 v) x h = kept-keys (verify_s1_to_n1 v) x (sends x container_place (verify_s1_to_n1_refusal x v) (λ c. []) [])
