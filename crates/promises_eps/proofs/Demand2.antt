-- Demand 2: what a seal accepts and writes, the round trip, and the estimate.
use Rattle.std.specs.Prelude.{None, Some, Ok, Err}
use Prim.Native.Nat.{ℕ, ◌+◌, ◌%◌, ◌≤◌, ◌<◌}
use mathlib.Core.Path.{◌≡◌, refl, sym, ap, ◌∙◌, subst}
use mathlib.Core.Bool.{Bool, true, false, cond, ◌||◌}
use mathlib.Core.Logic.{◌⊎◌, inl, inr, ◌↔◌}
use mathlib.Core.List.{List, [], ◌∷◌}
use native.Mathlib.Omega.{arith}
use lib.ListN.{length, get_or, drop}
use lib.Seq.{take-append_seam}
use lib.Dec.{eqb, ltb, leb}
use borrow.Author.Tests.{eq-eqb, ne_eqb, ltb-false, lt-ltb, le-ltb, leb-false, lt-leb}
use Rattle.count.specs.declared.Record.{Record}
use Rattle.count.specs.Rule.{Opening, exhausted, distance, forward_of, late_of, opening, forward_only}
use Rattle.count.specs.declared.Taken.TheVariants.{Late, Forward}
use Rattle.count.specs.declared.Missed.TheVariants.{NoCandidate, WrongCode}
use Rattle.count.proofs.Candidates.{never}
use Rattle.count.proofs.Openings.{answers}
use Rattle.refusals.specs.Order.{◌when◌}
use Rattle.refusals.proofs.Laws.{passed, off}
use Rattle.algorithms.specs.Codes.{cipher_of}
use Rattle.nas_core.specs.declared.Core.{Core}
use Rattle.nas_core.specs.Types.{wrong_type}
use Rattle.nas_core.specs.Keyed.{wraps, payload}
use Rattle.nas_core.specs.Refusals.{limit, hand_refusals}
use Rattle.nas_core.specs.Verify.{fits, verify_of}
use Rattle.nas_eps.specs.declared.Context.{Context}
use Rattle.nas_core.specs.declared.Direction.{Direction}
use Rattle.nas_core.specs.declared.Direction.TheVariants.{Uplink, Downlink}
use Rattle.nas_eps.specs.OpenAnswer as open'
use Rattle.nas_eps.specs.Places.{uplink, downlink, place_of, record_at, next_at, fault_of}
use Rattle.nas_eps.specs.Leaves.{use_next, open_values, refusal}
use Rattle.nas_eps.specs.Octets.{bearer, message, type_of, is_request, service_request, short_code, short_fits, request_as}
use Rattle.nas_eps.specs.Seal.{seal_refusals, seal_refusal, request_refusals, request_refusal}
use Rattle.nas_eps.specs.Open.{form_refusal, open_refusals, open_refusal}
use Rattle.nas_eps.proofs.Lengths.{message-length, request-length}
use Rattle.promise.proofs.Answers.{names, takes-taken}
use Rattle.promises_eps.specs.Calls.{Call, seal_message, seal_request, open_message, Outcome, gives}
use Rattle.promises_eps.specs.Words.{SameKeys, TakenAs, Succeeds, Uses, written, AnswersRequest}
use Rattle.promises_eps.specs.Demand2.{Accepts, Writes, RoundTrip, SealedNothing, Octets, Estimates, FiveBits, Demand2}
use Rattle.promises_eps.proofs.Shapes.{holding, refusal_of, found, plain, opened_as}
use Rattle.promises_eps.proofs.Passing.{passes, sends, gives-passed, gives-refused, uses-passed, succeeds-passed}
use Rattle.promises_eps.proofs.Taking.{answering, left_by, message-type, message-low, message-other, message-back, message-same, type-passes, request-is, request-names, request-same, request-answered}
use Rattle.promises_eps.proofs.Demand1.{demand1-open}

-- a send succeeds exactly when it is not refused
sent-exactly : (k : Call) (z : Context) (p : ℕ) (made : ℕ → List ℕ) (out : List ℕ) → passes k z ≡ sends z p made out
    → Succeeds (gives k z) ↔ (refusal_of k z ≡ 0)
unfolding use_next
sent-exactly k z p made out shape = ((λ h. succeeds-passed k z h), λ e. rw (gives-passed k z e, shape))

type-right : (t : ℕ) → wrong_type t ≡ false → (1 ≤ t) × (t ≤ 4)
unfolding wrong_type
type-right t e = go (ltb t 1) (ltb 4 t) refl refl e
  where
    go : (a b : Bool) → ltb t 1 ≡ a → ltb 4 t ≡ b → a || b ≡ false → (1 ≤ t) × (t ≤ 4)
    go true b p q h = let z : ◌≡◌ {A = ℕ} 0 1 = cc in absurd (omega arith)
    go false true p q h = let z : ◌≡◌ {A = ℕ} 0 1 = cc in absurd (omega arith)
    go false false p q h = (ltb-false t 1 p, ltb-false 4 t q)

module _ (z : Context) where
  seal-exactly : (t : ℕ) (d : Direction) (inner out : List ℕ)
      → Succeeds (gives (seal_message t d inner out) z)
      ↔ ((fault_of z ≡ 0) × (1 ≤ t) × (t ≤ 4) × (length inner ≤ limit) × (6 + length inner ≤ length out) × (next_at z (place_of d) < exhausted))
  unfolding seal_refusal
  seal-exactly t d inner out = (
    (λ h.
        let was = passed (seal_refusals z t (place_of d) inner (length out)) (e.0 h) in
        let r = type-right t (off 3 (wrong_type t) (omega arith) (was 1)) in (
          was 0,
          r.0,
          r.1,
          ltb-false limit (length inner) (off 4 (ltb limit (length inner)) (omega arith) (was 2)),
          ltb-false (length out) (6 + length inner) (off 5 (ltb (length out) (6 + length inner)) (omega arith) (was 3)),
          leb-false exhausted (next_at z (place_of d)) (off 6 (leb exhausted (next_at z (place_of d))) (omega arith) (was 4)),
        )),
    λ h.
        e.1 (simp (
          h.0,
          type-passes t h.1 h.2,
          le-ltb limit (length inner) h.3,
          le-ltb (length out) (6 + length inner) h.4,
          lt-leb exhausted (next_at z (place_of d)) h.5,
        )),
  )
    where
      e : Succeeds (gives (seal_message t d inner out) z) ↔ (refusal_of (seal_message t d inner out) z ≡ 0)
      e = sent-exactly (seal_message t d inner out) z (place_of d) (λ c. message z.core t c (place_of d) inner) out refl

  request-exactly : (i : ℕ) (out : List ℕ)
      → Succeeds (gives (seal_request i out) z) ↔ ((fault_of z ≡ 0) × (i ≤ 7) × (4 ≤ length out) × (next_at z uplink < exhausted))
  unfolding request_refusal
  request-exactly i out = (
    (λ h.
        let was = passed (request_refusals z i (length out)) (e.0 h) in (
          was 0,
          ltb-false 7 i (off 16 (ltb 7 i) (omega arith) (was 1)),
          ltb-false (length out) 4 (off 5 (ltb (length out) 4) (omega arith) (was 2)),
          leb-false exhausted (next_at z uplink) (off 6 (leb exhausted (next_at z uplink)) (omega arith) (was 3)),
        )),
    λ h.
        e.1 (simp (
          h.0,
          le-ltb 7 i h.1,
          le-ltb (length out) 4 h.2,
          lt-leb exhausted (next_at z uplink) h.3,
        )),
  )
    where
      e : Succeeds (gives (seal_request i out) z) ↔ (refusal_of (seal_request i out) z ≡ 0)
      e = sent-exactly (seal_request i out) z uplink (λ c. service_request z.core i c) out refl

pub accepts : (z : Context) → Accepts z
accepts z = record { seal = seal-exactly z; request = request-exactly z }

-- what a send writes
sent_is : (x : Context) (p : ℕ) (made : ℕ → List ℕ) (out : List ℕ)
    → let s = sends x p made out in
    Uses s (next_at x p) × (written s ≡ made s.values.count) × (s.values.wrote ≡ length (made s.values.count))
unfolding use_next
sent_is x p made out = ((refl, refl), take-append_seam (made (next_at x p)) (drop (length (made (next_at x p))) out), refl)

writes-by : (k : Call) (z : Context) (p : ℕ) (made : ℕ → List ℕ) (out : List ℕ) → passes k z ≡ sends z p made out → Succeeds (gives k z)
    → let s = gives k z in
    Uses s (next_at z p) × (written s ≡ made s.values.count) × (s.values.wrote ≡ length (made s.values.count))
writes-by k z p made out shape h = rw (gives-passed k z (succeeds-passed k z h), shape) (sent_is z p made out)

pub writes : (z : Context) → Writes z
writes z =
    record {
      seal = λ t d inner out h.
          let k = seal_message t d inner out in
          let w = writes-by k z (place_of d) (λ c. message z.core t c (place_of d) inner) out refl h in
          (w.0, w.1, w.2 ∙ message-length z.core t (gives k z).values.count (place_of d) inner);
      request = λ i out h.
          let k = seal_request i out in
          let w = writes-by k z uplink (λ c. service_request z.core i c) out refl h in
          (w.0, w.1, w.2 ∙ request-length z.core i (gives k z).values.count);
    }

-- opening what was sealed, where it is taken as its COUNT
module _ (x : Context) (d : Direction) (t c : ℕ) (inner room : List ℕ) (from : 1 ≤ t) (to : t ≤ 4) where
  abbrev m : List ℕ
  m = message x.core t c (place_of d) inner

  abbrev o : Outcome
  o = gives (open_message d m room) x

  plain-is : plain x (place_of d) m c ≡ inner
  plain-is = rw (message-other x.core t c (place_of d) inner from to) (message-back x.core t c (place_of d) inner from to)

  trip-left : Uses o c → o ≡ left_by x (place_of d) m room (found x (place_of d) m)
  trip-left u = gives-passed (open_message d m room) x (uses-passed (open_message d m room) x u.0)

  open-trip : Uses o c → TakenAs o c inner room
  open-trip u =
      let p = place_of d in
      let q = trip-left u in
      let a = answering x p m in
      let u' : Uses (left_by x p m room (found x p m)) c = subst (λ (w : Outcome). Uses w c) q u in
      rw q ((takes-taken holding open_values open'.Refused (opened_as x p m) (plain x p m) a x p room c inner plain-is (found x p m)).0
      (names holding open_values open'.Refused (opened_as x p m) (plain x p m) a x p room (found x p m) c u'.0 u'.1))

  -- there is no 8
  trip-succeeds : Uses o c → Succeeds o
  trip-succeeds u = let q = trip-left u in rw q (number (found x (place_of d) m) (subst (λ (w : Outcome). w.values.uses ≡ true) q u.0))
    where
      number : (f : Opening) → (left_by x (place_of d) m room f).values.uses ≡ true → (left_by x (place_of d) m room f).values.number ≡ 0
      number (Err NoCandidate) h = let z : ◌≡◌ {A = ℕ} 0 1 = cc in absurd (omega arith)
      number (Err WrongCode) h = let z : ◌≡◌ {A = ℕ} 0 1 = cc in absurd (omega arith)
      number (Ok (Late n)) h = rw (message-other x.core t c (place_of d) inner from to) refl
      number (Ok (Forward n)) h = rw (message-other x.core t c (place_of d) inner from to) refl

  trip-header : Uses o c → o.values.header ≡ t
  trip-header u = (demand1-open x d m room (trip-succeeds u)).header ∙ message-type x.core t c (place_of d) inner from to

request-trip : (x : Context) (i c : ℕ) (room : List ℕ) → let w = gives (open_message Uplink (service_request x.core i c) room) x in
    Uses w c → AnswersRequest w c i room
request-trip x i c room u =
    let m = service_request x.core i c in
    let k = open_message Uplink m room in
    let q : gives k x ≡ left_by x uplink m room (found x uplink m) = gives-passed k x (uses-passed k x u.0) in
    let a = answering x uplink m in
    let u' : Uses (left_by x uplink m room (found x uplink m)) c = subst (λ (w : Outcome). Uses w c) q u in
    subst (λ (j : ℕ). AnswersRequest (gives k x) c j room) (request-names x.core i c)
    (rw q (request-answered x uplink m (request-is x.core i c) room c (found x uplink m)
    (names holding open_values open'.Refused (opened_as x uplink m) (plain x uplink m) a x uplink room (found x uplink m) c u'.0 u'.1)))

pub returns : (z x : Context) → SameKeys z.core x.core → RoundTrip z x
returns z x keys =
    record {
      seal = λ t d inner out room h u.
          let c = (gives (seal_message t d inner out) z).values.count in
          let e = ((writes z).seal t d inner out h).1 ∙ message-same x.core z.core keys t c (place_of d) inner in
          let r = ((accepts z).seal t d inner out).0 h in
          let u' = subst (λ (n : List ℕ). Uses (gives (open_message d n room) x) c) e u in
          subst
          (λ (n : List ℕ). let o = gives (open_message d n room) x in Succeeds o × (o.values.header ≡ t) × TakenAs o c inner room)
          (sym e) (
            trip-succeeds x d t c inner room r.1 r.2 u',
            trip-header x d t c inner room r.1 r.2 u',
            open-trip x d t c inner room r.1 r.2 u',
          );
      request = λ i out room h u.
          let c = (gives (seal_request i out) z).values.count in
          let e = ((writes z).request i out h).1 ∙ request-same x.core z.core keys i c in
          let u' = subst (λ (n : List ℕ). Uses (gives (open_message Uplink n room) x) c) e u in
          subst (λ (n : List ℕ). AnswersRequest (gives (open_message Uplink n room) x) c i room) (sym e) (request-trip x i c room u');
    }

-- a seal of nothing
six-refused : (x : Context) (d : Direction) (m room : List ℕ) → fault_of x ≡ 0 → length m ≡ 6 → get_or m 0 0 % 16 ≡ 7 → wrong_type (type_of m) ≡ false
    → is_request m ≡ false → (gives (open_message d m room) x).values ≡ refusal 1
unfolding open_refusal form_refusal
six-refused x d m room fault long seven type other =
    let e : refusal_of (open_message d m room) x ≡ 1 =
    simp (fault, ne_eqb (length m) 0 (λ z. omega arith), eq-eqb (get_or m 0 0 % 16) 7 seven, type, other, lt-ltb (length m) 7 (omega arith)) in
    rw (gives-refused (open_message d m room) x (λ z. omega arith)) (ap refusal e)

sealed-nothing : (z x : Context) → SealedNothing z x
sealed-nothing z x =
    record {
      gives-6 = λ t d out h. let w = (writes z).seal t d [] out h in (w.2, w.0);
      refused = λ t d d' out room h fault.
          let p = place_of d in
          let c = (gives (seal_message t d [] out) z).values.count in
          let r = ((accepts z).seal t d [] out).0 h in
          subst (λ (m : List ℕ). (gives (open_message d' m room) x).values ≡ refusal 1)
          (sym ((writes z).seal t d [] out h).1)
          (six-refused x d' (message z.core t c p []) room fault (message-length z.core t c p []) (message-low z.core t c p [])
          (ap wrong_type (message-type z.core t c p [] r.1 r.2) ∙ type-passes t r.1 r.2) (message-other z.core t c p [] r.1 r.2));
    }

-- octets
unchanged : (x : Core) → x.ciphering ≡ 0 → (ciphered : Bool) (c b d : ℕ) (m : List ℕ) → payload x ciphered c b d m ≡ m
unfolding payload cipher_of
unchanged x e true c b d m = rw e
unchanged x e false c b d m = refl

octets : (x : Context) → Octets x
unfolding fits short_fits short_code
octets x = record { unchanged = unchanged x.core; covers = λ c d a m. refl; covers-two = λ c a b e f. refl }

-- a COUNT that is answered was found
pub found-used : (x : Context) (d : Direction) (m out : List ℕ) (c : ℕ) → Uses (gives (open_message d m out) x) c
    → (found x (place_of d) m ≡ Ok (Late c)) ⊎ (found x (place_of d) m ≡ Ok (Forward c))
found-used x d m out c u =
    let p = place_of d in
    let k = open_message d m out in
    let q : gives k x ≡ left_by x p m out (found x p m) = gives-passed k x (uses-passed k x u.0) in
    let u' : Uses (left_by x p m out (found x p m)) c = subst (λ (w : Outcome). Uses w c) q u in
    names holding open_values open'.Refused (opened_as x p m) (plain x p m) (answering x p m) x p out (found x p m) c u'.0 u'.1

module _ (x : Core) (r : Record) (d : ℕ) (m : List ℕ) (c : ℕ) where
  abbrev fit : ℕ → Bool
  fit n = fits x n bearer d 1 m

  verified-is : (verify_of x r bearer d 1 m ≡ Ok (Late c)) ⊎ (verify_of x r bearer d 1 m ≡ Ok (Forward c))
      → ((late_of 8 x.size r (get_or m 5 0) ≡ Some c) ⊎ (forward_of 8 (wraps x) r (get_or m 5 0) ≡ Some c)) × (fit c ≡ true)
  unfolding verify_of opening
  verified-is (inl e) =
      let a = (answers fit (cond (wraps x) None (late_of 8 x.size r (get_or m 5 0))) (forward_of 8 (wraps x) r (get_or m 5 0)) (Ok (Late c))).0 e in
      (inl (late (wraps x) a.0), a.1)
    where
      late : (t : Bool) → cond t None (late_of 8 x.size r (get_or m 5 0)) ≡ Some c → late_of 8 x.size r (get_or m 5 0) ≡ Some c
      late true q = never q
      late false q = q
  verified-is (inr e) =
      let a = (answers fit (cond (wraps x) None (late_of 8 x.size r (get_or m 5 0))) (forward_of 8 (wraps x) r (get_or m 5 0)) (Ok (Forward c))).0 e in
      (inr a.1, a.2)

  pub requested-is : (request_as x r m ≡ Ok (Late c)) ⊎ (request_as x r m ≡ Ok (Forward c)) → (forward_of 5 (wraps x) r (get_or m 1 0 % 32) ≡ Some c) × (short_fits x c m ≡ true)
  unfolding request_as forward_only
  requested-is (inl e) = never ((answers (λ n. short_fits x n m) None (forward_of 5 (wraps x) r (get_or m 1 0 % 32)) (Ok (Late c))).0 e).0
  requested-is (inr e) = let a = (answers (λ n. short_fits x n m) None (forward_of 5 (wraps x) r (get_or m 1 0 % 32)) (Ok (Forward c))).0 e in (a.1, a.2)

-- 11: a SERVICE REQUEST that is not refused is uplink
request-uplink : (x : Context) (d : Direction) (m : List ℕ) (room : ℕ) → is_request m ≡ true → open_refusal x (place_of d) m room ≡ 0 → d ≡ Uplink
unfolding open_refusal
request-uplink x Uplink m room is e = refl
request-uplink x Downlink m room is e =
    let q : 11 when (eqb 1 downlink) ≡ 0 = subst (λ (t : Bool). get_or (fault_of x ∷ form_refusal m ∷ cond t (11 when (eqb 1 downlink) ∷ []) (hand_refusals 6 (length m) room)) 2 0 ≡ 0) is
    (passed (open_refusals x downlink m room) e 2) in
    absurd (omega arith)

estimates : (x : Context) → Estimates gives x
estimates x =
    record {
      opens = λ d m out c other u. verified-is x.core (record_at x (place_of d)) (place_of d) m c (rw other at (found-used x d m out c u));
      requests = λ d m out c is u.
          let up = request-uplink x d m (length out) is (uses-passed (open_message d m out) x u.0) in
          let r = requested-is x.core (record_at x (place_of d)) (place_of d) m c (rw is at (found-used x d m out c u)) in
          (up, subst (λ (d : Direction). forward_of 5 (wraps x.core) (record_at x (place_of d)) (get_or m 1 0 % 32) ≡ Some c) up r.0, r.1);
    }

five-bits : FiveBits
unfolding forward_of distance
five-bits = record { P1 = refl; P2 = refl; P3 = refl; P4 = refl; P5 = refl; round = refl }

pub demand2 : Demand2
demand2 =
    record {
      accepts = accepts;
      writes = writes;
      returns = returns;
      nothing = sealed-nothing;
      octets = octets;
      estimates = estimates;
      five-bits = five-bits;
    }
