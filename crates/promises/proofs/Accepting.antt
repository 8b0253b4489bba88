-- Demand 2: when seals and container calls succeed, and what is said of octets beside.
use Rattle.std.specs.Prelude.{Option, None, Some, Ok, Err}
use Prim.Native.Nat.{ℕ, suc, ◌+◌, ◌*◌, ◌/◌, ◌%◌, ◌≤◌, ◌<◌}
use mathlib.Core.Path.{◌≡◌, refl, sym, ap, ◌∙◌, subst}
use mathlib.Core.Bool.{Bool, true, false, not, ◌&&◌, ◌||◌}
use mathlib.Core.Logic.{inl, ◌↔◌}
use mathlib.Core.List.{List, [], ◌∷◌}
use native.Mathlib.Omega.{arith}
use lib.ListN.{length, get_or}
use lib.Dec.{eqb, ltb, leb}
use borrow.Author.Tests.{eqb-true, eq-eqb, ltb-false, le-ltb, leb-false, lt-leb, not-false}
use Rattle.count.specs.Rule.{Opening, exhausted, forward_of, forward_only}
use Rattle.count.specs.declared.Taken.TheVariants.{Late, Forward}
use Rattle.count.specs.declared.Missed.TheVariants.{NoCandidate, WrongCode}
use Rattle.count.proofs.Openings.{answers}
use Rattle.count.proofs.Candidates.{never}
use Rattle.refusals.specs.Order.{◌when◌, first}
use Rattle.refusals.proofs.Laws.{passed, off}
use Rattle.algorithms.specs.Codes.{cipher_of}
use Rattle.nas_core.specs.declared.Core.{Core}
use Rattle.nas_core.specs.Keyed.{wraps, payload}
use Rattle.nas_core.specs.Refusals.{limit, send_refusals}
use Rattle.nas_core.specs.Verify.{fits, verify_of}
use Rattle.look.specs.Look.{not_known, not_together, wrong_way, look_refusals, look_of}
use Rattle.initial.specs.Messages.{is_initial}
use Rattle.initial.specs.Outer.{is_hideable, outer_length}
use Rattle.envelope.specs.Initial.{initial_envelope}
use Rattle.nas_5gs.specs.declared.Context.{Context}
use Rattle.nas_core.specs.declared.Direction.{Direction}
use Rattle.nas_core.specs.declared.Direction.TheVariants.{Uplink}
use Rattle.nas_5gs.specs.declared.Connection.{Connection}
use Rattle.nas_5gs.specs.Places.{direction_no, bearer_no, place_of, record_at, next_at, fault_of}
use Rattle.nas_5gs.specs.Leaves.{use_next, received, verify_values, refusal}
use Rattle.nas_5gs.specs.Envelope.{wrong_type, envelope}
use Rattle.nas_5gs.specs.Seal.{seal_refusals, seal_refusal, opaque_refusals, opaque_refusal}
use Rattle.nas_5gs.specs.Initial.{initial_refusals, initial_refusal}
use Rattle.nas_5gs.proofs.Passed.{initial-is}
use Rattle.nas_5gs.specs.Open.{type_of, open_refusal, plain_of, opened, open_of}
use Rattle.nas_5gs.specs.Eps.{eps_place, not_eps, eps_message, seal_eps_refusals, seal_eps_refusal}
use Rattle.nas_5gs.specs.Containers.{container_place, container_bearer, container_direction, none_left, s1_count, s1_to_n1, s1_to_n1_refusals, s1_to_n1_refusal, other_algorithms, verify_s1_to_n1_refusals, verify_s1_to_n1_refusal}
use Rattle.promises.specs.Calls.{Call, seal5gs, seal_opaque, seal_initial, open5gs, seal_eps, make_n1_to_s1, verify_n1_to_s1, make_s1_to_n1, verify_s1_to_n1, Outcome, outcome, gives}
use Rattle.promises.specs.Words.{Succeeds, Uses}
use Rattle.promises.specs.Demand2.{CanSend, Passes, Accepts, SealedNothing, Octets, Demand2}
use Rattle.promises.proofs.Shapes.{refusal_of, octet_found, octet_refused, octet_used}
use Rattle.promises.proofs.Passing.{passes, sends, gives-passed, gives-refused}
use Rattle.promises.proofs.Taking.{envelope-type, envelope-first, envelope-long}
use Rattle.promises.proofs.Demand1.{opened-passed, octet-never-late}
use Rattle.promises.proofs.Demand2.{type-right, look-passed, opaque-type, writes, returns}
use Rattle.promises.proofs.Containers.{verify-passes, verified, containers, twice, estimates}

-- a send succeeds exactly when it is not refused
sent-exactly : (k : Call) (z : Context) (p : ℕ) (made : ℕ → List ℕ) (out : List ℕ) → passes k z ≡ sends z p made out
    → Succeeds (gives k z) ↔ (refusal_of k z ≡ 0)
unfolding use_next
sent-exactly k z p made out shape = ((λ h. opened-passed k z (inl h)), λ e. rw (gives-passed k z e, shape))

type-passes : (t : ℕ) → 1 ≤ t → t ≤ 4 → wrong_type t ≡ false
unfolding wrong_type
type-passes t from to = simp (le-ltb t 1 from, le-ltb 4 t to)

module _ (z : Context) (p header n : ℕ) (out : List ℕ) where
  abbrev send-list : List ℕ
  send-list = send_refusals header n (length out) (next_at z p)

  can-send : fault_of z ≡ 0 → ((i : ℕ) → get_or send-list i 0 ≡ 0) → CanSend z p header n out
  can-send fault was =
      record {
        faultless = fault;
        count = leb-false exhausted (next_at z p) (off 6 (leb exhausted (next_at z p)) (omega arith) (was 2));
        short = ltb-false limit n (off 4 (ltb limit n) (omega arith) (was 0));
        room = ltb-false (length out) (header + n) (off 5 (ltb (length out) (header + n)) (omega arith) (was 1));
      }

  send-passes : CanSend z p header n out → first send-list ≡ 0
  send-passes h =
      simp (
        le-ltb limit n h.short,
        le-ltb (length out) (header + n) h.room,
        lt-leb exhausted (next_at z p) h.count,
      )

module _ (z : Context) where
  module _ (t : ℕ) (d : Direction) (k : Connection) (inner out : List ℕ) where
    abbrev made : ℕ → List ℕ
    made c = envelope z.core t c (bearer_no k) (direction_no d) inner

    opaque-exactly : Succeeds (gives (seal_opaque t d k inner out) z) ↔ (CanSend z (place_of d k) 7 (length inner) out × (1 ≤ t) × (t ≤ 4))
    unfolding opaque_refusal
    opaque-exactly = (
      (λ h.
          let was = passed (opaque_refusals z t (place_of d k) inner (length out)) (e.0 h) in
          let r = type-right t (off 3 (wrong_type t) (omega arith) (was 1)) in
          (can-send z (place_of d k) 7 (length inner) out (was 0) (λ i. was (suc (suc i))), r.0, r.1)),
      λ h. e.1 (simp (h.0.faultless, type-passes t h.1 h.2) (send-passes z (place_of d k) 7 (length inner) out h.0)),
    )
      where
        e : Succeeds (gives (seal_opaque t d k inner out) z) ↔ (refusal_of (seal_opaque t d k inner out) z ≡ 0)
        e = sent-exactly (seal_opaque t d k inner out) z (place_of d k) made out refl

    seal-exactly : Succeeds (gives (seal5gs t d k inner out) z)
        ↔ (CanSend z (place_of d k) 7 (length inner) out × (1 ≤ t) × (t ≤ 4) × (look_of t (direction_no d) inner ≡ 0))
    unfolding seal_refusal look_of
    seal-exactly = (
      (λ h.
          let was = passed (seal_refusals z t (place_of d k) (direction_no d) inner (length out)) (e.0 h) in
          let r = type-right t (off 3 (wrong_type t) (omega arith) (was 2)) in
          let l = look-passed t (direction_no d) inner (off 9 (not_known inner) (omega arith) (was 1))
          (off 10 (not_together t inner) (omega arith) (was 3)) (off 11 (wrong_way (direction_no d) inner) (omega arith) (was 4)) in
          (can-send z (place_of d k) 7 (length inner) out (was 0) (λ i. was (suc (suc (suc (suc (suc i)))))), r.0, r.1, l)),
      λ h.
          let l = passed (look_refusals t (direction_no d) inner) h.3 in
          e.1 (simp (
            h.0.faultless,
            type-passes t h.1 h.2,
            off 9 (not_known inner) (omega arith) (l 0),
            off 10 (not_together t inner) (omega arith) (l 1),
            off 11 (wrong_way (direction_no d) inner) (omega arith) (l 2),
          )
          (send-passes z (place_of d k) 7 (length inner) out h.0)),
    )
      where
        e : Succeeds (gives (seal5gs t d k inner out) z) ↔ (refusal_of (seal5gs t d k inner out) z ≡ 0)
        e = sent-exactly (seal5gs t d k inner out) z (place_of d k) made out refl

  initial-exactly : (k : Connection) (w out : List ℕ)
      → Succeeds (gives (seal_initial k w out) z) ↔ (CanSend z (place_of Uplink k) 7 (outer_length w) out × (is_initial w ≡ true) × (is_hideable w ≡ true))
  unfolding initial_refusal
  initial-exactly k w out = (
    (λ h.
        let p = place_of Uplink k in
        let was = passed (initial_refusals z p w (length out)) (e.0 h) in
        let i = initial-is z p w (length out) (e.0 h) in
        (can-send z p 7 (outer_length w) out (was 0) (λ i. was (suc (suc (suc i)))), i.0, i.1)),
    λ h. e.1 (simp (h.0.faultless, h.1, h.2) (send-passes z (place_of Uplink k) 7 (outer_length w) out h.0)),
  )
    where
      e : Succeeds (gives (seal_initial k w out) z) ↔ (refusal_of (seal_initial k w out) z ≡ 0)
      e = sent-exactly (seal_initial k w out) z (place_of Uplink k) (λ c. initial_envelope z.core c (bearer_no k) w) out refl

  eps-exactly : (inner out : List ℕ) → Succeeds (gives (seal_eps inner out) z) ↔ (CanSend z eps_place 6 (length inner) out × (not_eps inner ≡ false))
  unfolding seal_eps_refusal
  eps-exactly inner out = (
    (λ h.
        let was = passed (seal_eps_refusals z inner (length out)) (e.0 h) in
        (can-send z eps_place 6 (length inner) out (was 0) (λ i. was (suc (suc i))), off 12 (not_eps inner) (omega arith) (was 1))),
    λ h. e.1 (simp (h.0.faultless, h.1) (send-passes z eps_place 6 (length inner) out h.0)),
  )
    where
      e : Succeeds (gives (seal_eps inner out) z) ↔ (refusal_of (seal_eps inner out) z ≡ 0)
      e = sent-exactly (seal_eps inner out) z eps_place (λ c. eps_message z.core c inner) out refl

  either-off : (a b : Bool) → a || b ≡ false → (a ≡ false) × (b ≡ false)
  either-off true b h = let q : ◌≡◌ {A = ℕ} 0 1 = cc in absurd (omega arith)
  either-off false b h = (refl, h)

  s1-exactly : (ncc ngksi : ℕ) (out : List ℕ)
      → Succeeds (gives (make_s1_to_n1 ncc ngksi out) z)
      ↔ ((fault_of z ≡ 0) × (ncc ≤ 7) × (ngksi ≤ 15) × (8 ≤ length out) × (next_at z container_place < exhausted))
  unfolding s1_to_n1_refusal
  s1-exactly ncc ngksi out = (
    (λ h.
        let was = passed (s1_to_n1_refusals z ncc ngksi (length out)) (e.0 h) in
        let n = either-off (ltb 7 ncc) (ltb 15 ngksi) (off 16 (ltb 7 ncc || ltb 15 ngksi) (omega arith) (was 1)) in (
          was 0,
          ltb-false 7 ncc n.0,
          ltb-false 15 ngksi n.1,
          ltb-false (length out) 8 (off 5 (ltb (length out) 8) (omega arith) (was 2)),
          leb-false exhausted (next_at z container_place) (off 6 (none_left z) (omega arith) (was 3)),
        )),
    λ h.
        e.1 (simp (
          h.0,
          le-ltb 7 ncc h.1,
          le-ltb 15 ngksi h.2,
          le-ltb (length out) 8 h.3,
          lt-leb exhausted (next_at z container_place) h.4,
        )),
  )
    where
      e : Succeeds (gives (make_s1_to_n1 ncc ngksi out) z) ↔ (refusal_of (make_s1_to_n1 ncc ngksi out) z ≡ 0)
      e = sent-exactly (make_s1_to_n1 ncc ngksi out) z container_place (λ c. s1_to_n1 z.core ncc ngksi) out refl

  n1-exactly : Succeeds (gives make_n1_to_s1 z) ↔ ((fault_of z ≡ 0) × (next_at z container_place < exhausted))
  n1-exactly = (
    (λ h.
        let was = passed (fault_of z ∷ 6 when none_left z ∷ []) (opened-passed make_n1_to_s1 z (inl h)) in
        (was 0, leb-false exhausted (next_at z container_place) (off 6 (none_left z) (omega arith) (was 1)))),
    λ h. rw (gives-passed make_n1_to_s1 z (simp (h.0, lt-leb exhausted (next_at z container_place) h.1))),
  )

  same-off : (a b c d : ℕ) → not (eqb a b && eqb c d) ≡ false → (a ≡ b) × (c ≡ d)
  same-off a b c d h = go (eqb a b) (eqb c d) refl refl h
    where
      go : (s t : Bool) → eqb a b ≡ s → eqb c d ≡ t → not (s && t) ≡ false → (a ≡ b) × (c ≡ d)
      go true true p q h' = (eqb-true a b p, eqb-true c d q)
      go true false p q h' = let n : ◌≡◌ {A = ℕ} 0 1 = cc in absurd (omega arith)
      go false t p q h' = let n : ◌≡◌ {A = ℕ} 0 1 = cc in absurd (omega arith)

  value-passed : (v : List ℕ) → verify_s1_to_n1_refusal z v ≡ 0 → Passes z v
  unfolding verify_s1_to_n1_refusal other_algorithms
  value-passed v e =
      let was = passed (verify_s1_to_n1_refusals z v) e in
      let code = fits z.core s1_count container_bearer container_direction 0 v in
      let s = same-off (get_or v 4 0 / 16) z.core.ciphering (get_or v 4 0 % 16) z.core.integrity
      (off 15 (other_algorithms z.core v) (omega arith) (was 3)) in
      record {
        faultless = was 0;
        long = ltb-false (length v) 8 (off 1 (ltb (length v) 8) (omega arith) (was 1));
        short = ltb-false limit (length v) (off 4 (ltb limit (length v)) (omega arith) (was 2));
        ciphering = s.0;
        integrity = s.1;
        count = leb-false exhausted (next_at z container_place) (off 6 (none_left z) (omega arith) (was 4));
        code = not-false code (off 7 (not code) (omega arith) (was 5));
      }

  value-exactly : (v : List ℕ) → Succeeds (gives (verify_s1_to_n1 v) z) ↔ Passes z v
  unfolding other_algorithms
  value-exactly v = (
    (λ h. value-passed v (opened-passed (verify_s1_to_n1 v) z (inl h))),
    λ h.
        (verified z v (verify-passes z v h.faultless h.long h.short
        (simp (eq-eqb (get_or v 4 0 / 16) z.core.ciphering h.ciphering, eq-eqb (get_or v 4 0 % 16) z.core.integrity h.integrity))
        h.count h.code)).0,
  )

  octet-taken : (s c : ℕ) (o : Opening) → ((c' : ℕ) → o ≡ Ok (Late c') → ⊥)
      → let q = outcome verify_values (received z container_place (octet_refused z s) (octet_used z s) o) in (Succeeds q × Uses q c) ↔ (o ≡ Ok (Forward c))
  octet-taken s c (Err NoCandidate) none-late = ((λ h. let q : ◌≡◌ {A = ℕ} 0 1 = cc in absurd (omega arith)), λ e. let q : ◌≡◌ {A = ℕ} 0 1 = cc in absurd (omega arith))
  octet-taken s c (Err WrongCode) none-late = ((λ h. let q : ◌≡◌ {A = ℕ} 0 1 = cc in absurd (omega arith)), λ e. let q : ◌≡◌ {A = ℕ} 0 1 = cc in absurd (omega arith))
  octet-taken s c (Ok (Late n)) none-late = absurd (none-late n refl)
  octet-taken s c (Ok (Forward n)) none-late = ((λ h. ap (λ (n : ℕ). Ok (Forward n)) h.1.1), λ e. let q : n ≡ c = cc in (refl, (refl, q)))

  abbrev ahead : ℕ → Option ℕ
  ahead s = forward_of 8 (wraps z.core) (record_at z container_place) s

  octet-exactly : (s c : ℕ)
      → let o = gives (verify_n1_to_s1 s) z in
      (Succeeds o × Uses o c) ↔ ((fault_of z ≡ 0) × (forward_of 8 (wraps z.core) (record_at z container_place) s ≡ Some c))
  unfolding forward_only
  octet-exactly s c = (
    (λ h.
        let fault = opened-passed (verify_n1_to_s1 s) z (inl h.0) in
        let h' = subst (λ (o : Outcome). Succeeds o × Uses o c) (gives-passed (verify_n1_to_s1 s) z fault) h in
        (fault, ((answers (λ c'. true) None (ahead s) (Ok (Forward c))).0 ((octet-taken s c (octet_found z s) (octet-never-late z s)).0 h')).1)),
    λ h.
        rw (gives-passed (verify_n1_to_s1 s) z h.0)
        ((octet-taken s c (octet_found z s) (octet-never-late z s)).1 ((answers (λ c'. true) None (ahead s) (Ok (Forward c))).1 ((λ c' e. never e), h.1, refl))),
  )

pub accepts : (z : Context) → Accepts z
accepts z =
    record {
      opaque = opaque-exactly z;
      seal = seal-exactly z;
      initial = initial-exactly z;
      eps = eps-exactly z;
      s1_to_n1 = s1-exactly z;
      n1_to_s1 = n1-exactly z;
      verify-s1_to_n1 = value-exactly z;
      verify-n1_to_s1 = octet-exactly z;
    }

-- an opaque seal of nothing
seven-refused : (x : Context) (d : Direction) (k : Connection) (m room room2 : List ℕ) → fault_of x ≡ 0 → length m ≡ 7 → get_or m 0 0 ≡ 0x7E
    → wrong_type (type_of m) ≡ false → (gives (open5gs d k m room room2) x).values ≡ refusal 1
unfolding open_refusal
seven-refused x d k m room room2 fault long first-octet type =
    let e : refusal_of (open5gs d k m room room2) x ≡ 1 =
    simp (fault, le-ltb (length m) 7 (omega arith), eq-eqb (get_or m 0 0) 0x7E first-octet, type, eq-eqb (length m) 7 long) in
    rw (gives-refused (open5gs d k m room room2) x (λ z. omega arith)) (ap refusal e)

sealed-nothing : (z x : Context) → SealedNothing z x
sealed-nothing z x =
    record {
      gives-7 = λ t d k out h. let w = (writes z).opaque t d k [] out h in (w.2, w.0);
      refused = λ t d d' k k' out room room2 h fault.
          let b = bearer_no k in let e = direction_no d in
          let c = (gives (seal_opaque t d k [] out) z).values.count in
          let r = opaque-type z t d k [] out h in
          subst (λ (m : List ℕ). (gives (open5gs d' k' m room room2) x).values ≡ refusal 1)
          (sym ((writes z).opaque t d k [] out h).1)
          (seven-refused x d' k' (envelope z.core t c b e []) room room2 fault (envelope-long z.core t c b e []) (envelope-first z.core t c b e [])
          (ap wrong_type (envelope-type z.core t c b e [] r.0 r.1) ∙ type-passes t r.0 r.1));
    }

-- octets
unchanged : (x : Core) → x.ciphering ≡ 0 → (ciphered : Bool) (c b d : ℕ) (m : List ℕ) → payload x ciphered c b d m ≡ m
unfolding payload cipher_of
unchanged x e true c b d m = rw e
unchanged x e false c b d m = refl

octets : (x : Context) → Octets x
unfolding open_of opened plain_of open_refusal verify_of fits
octets x =
    record {
      unchanged = unchanged x.core;
      high_half = λ d k h t m out out2. let q : (h * 16 + t) % 16 ≡ t % 16 = omega arith in (rw q, rw q);
      covers = λ c b d t m. refl;
      whole = λ v. refl;
    }

pub demand2 : Demand2
demand2 =
    record {
      accepts = accepts;
      writes = writes;
      returns = returns;
      nothing = sealed-nothing;
      octets = octets;
      containers = containers;
      twice = twice;
      estimates = estimates;
    }
