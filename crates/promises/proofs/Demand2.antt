-- Demand 2: what a seal writes, and the round trip.
use Rattle.std.specs.Prelude.{Ok, Err}
use Prim.Native.Nat.{ℕ, ◌+◌, ◌≤◌}
use mathlib.Core.Path.{◌≡◌, refl, sym, ap, ◌∙◌, subst}
use mathlib.Core.Bool.{Bool, true, false, cond, ◌||◌}
use mathlib.Core.Logic.{inl, ⊎_elim, ◌↔◌}
use mathlib.Core.List.{List, [], ◌∷◌}
use native.Mathlib.Omega.{arith}
use lib.ListN.{length, get_or, drop}
use lib.Seq.{take-append_seam}
use lib.Dec.{ltb}
use borrow.Author.Tests.{ltb-false}
use Rattle.count.specs.Rule.{Opening}
use Rattle.count.specs.declared.Taken.TheVariants.{Late, Forward}
use Rattle.count.specs.declared.Missed.TheVariants.{NoCandidate, WrongCode}
use Rattle.count.specs.Run.{In}
use Rattle.refusals.proofs.Laws.{passed, off}
use Rattle.nas_core.specs.Keyed.{payload}
use Rattle.look.specs.Look.{not_known, not_together, wrong_way, look_of}
use Rattle.initial.specs.Messages.{is_initial}
use Rattle.initial.specs.Outer.{is_hideable, hides, outer_of}
use Rattle.initial.specs.Inside.{Hidden, refused, handed, is_asked, hidden_of, ends_in18}
use Rattle.initial.proofs.Laws.{laws}
use Rattle.envelope.specs.Initial.{outgoing, initial_envelope, beside_of, beside}
use Rattle.envelope.proofs.Insides.{asked_is}
use Rattle.envelope.proofs.Lengths.{initial-length}
use Rattle.nas_5gs.proofs.Passed.{initial-is, initial-whole}
use Rattle.nas_5gs.specs.declared.Context.{Context}
use Rattle.nas_core.specs.declared.Direction.{Direction}
use Rattle.nas_core.specs.declared.Direction.TheVariants.{Uplink}
use Rattle.nas_5gs.specs.declared.Connection.{Connection}
use Rattle.nas_5gs.specs.OpenAnswer as open'
use Rattle.nas_5gs.specs.EpsOpenAnswer as eps
use Rattle.nas_5gs.specs.Places.{direction_no, bearer_no, place_of, next_at}
use Rattle.nas_5gs.specs.Leaves.{over, use_next, open_values, eps_open_values}
use Rattle.nas_5gs.specs.Envelope.{wrong_type, ciphers, envelope}
use Rattle.nas_5gs.specs.Seal.{seal_refusals, seal_refusal, opaque_refusals, opaque_refusal}
use Rattle.nas_5gs.specs.Open.{type_of, inside_number}
use Rattle.nas_5gs.specs.Eps.{eps_place, not_eps, eps_message, seal_eps_refusals, seal_eps_refusal}
use Rattle.nas_5gs.specs.Containers.{container_place, s1_to_n1}
use Rattle.promises.specs.Calls.{Call, seal5gs, seal_opaque, seal_initial, open5gs, seal_eps, open_eps, make_n1_to_s1, make_s1_to_n1, Outcome, gives, second}
use Rattle.promises.specs.Words.{SameKeys, TakenAs, Succeeds, Uses, written}
use Rattle.promises.specs.Demand1.{inside5gs}
use Rattle.promises.specs.Demand2.{Writes, EndsIn18, HandsWhole, RoundTrip}
use Rattle.promise.proofs.Answers.{names, takes-taken}
use Rattle.promises.proofs.Shapes.{holding, found, plain, opened_as, eps_found, eps_as}
use Rattle.promises.proofs.Passing.{passes, sends, gives-passed, uses-passed}
use Rattle.promises.proofs.Numbers.{not_there}
use Rattle.promises.proofs.Opening.{eps-sealed, payloads-same, payload_twice, envelope-same, eps-same}
use Rattle.promises.proofs.Taking.{left, open-answering, eps-answering, open-left, eps-left, envelope-type, envelope-long, envelope-back}
use Rattle.promises.proofs.Demand1.{opened-passed, s1-long, carries-none, demand1-open}

-- what a send writes
pub sent_is : (x : Context) (p : ℕ) (made : ℕ → List ℕ) (out : List ℕ)
    → let s = sends x p made out in
    Uses s (next_at x p) × (written s ≡ made s.values.count) × (s.values.wrote ≡ length (made s.values.count))
unfolding use_next
sent_is x p made out = ((refl, refl), take-append_seam (made (next_at x p)) (drop (length (made (next_at x p))) out), refl)

module _ (k : Call) (z : Context) (p : ℕ) (made : ℕ → List ℕ) (out : List ℕ) (shape : passes k z ≡ sends z p made out) where
  pub writes-by : Succeeds (gives k z)
      → let s = gives k z in
      Uses s (next_at z p) × (written s ≡ made s.values.count) × (s.values.wrote ≡ length (made s.values.count))
  writes-by h =
      rw (gives-passed k z (opened-passed k z (inl h)), shape) (sent_is z p made out)

pub writes : (z : Context) → Writes z
writes z =
    record {
      seal = λ t d k inner out h. enveloped (seal5gs t d k inner out) t d k inner out refl h;
      opaque = λ t d k inner out h. enveloped (seal_opaque t d k inner out) t d k inner out refl h;
      initial = λ k w out h.
          let p = place_of Uplink k in
          let v = writes-by (seal_initial k w out) z p (λ c. initial_envelope z.core c (bearer_no k) w) out refl h in
          let whole = initial-whole z p w (length out) (opened-passed (seal_initial k w out) z (inl h)) in
          (v.0, v.1, v.2 ∙ initial-length z.core (gives (seal_initial k w out) z).values.count (bearer_no k) w whole);
      eps = λ inner out h.
          let w = writes-by (seal_eps inner out) z eps_place (λ c. eps_message z.core c inner) out refl h in
          (w.0, w.1, w.2 ∙ (eps-sealed z.core (gives (seal_eps inner out) z).values.count inner).long);
      s1_to_n1 = λ ncc ngksi out h.
          let w = writes-by (make_s1_to_n1 ncc ngksi out) z container_place (λ c. s1_to_n1 z.core ncc ngksi) out refl h in
          (w.0, w.1, w.2 ∙ s1-long z ncc ngksi);
      n1_to_s1 = λ h. rw (gives-passed make_n1_to_s1 z (opened-passed make_n1_to_s1 z (inl h))) ((refl, refl), refl, refl);
    }
  where
    enveloped : (seal : Call) (t : ℕ) (d : Direction) (k : Connection) (inner out : List ℕ)
        → passes seal z ≡ sends z (place_of d k) (λ c. envelope z.core t c (bearer_no k) (direction_no d) inner) out → Succeeds (gives seal z)
        → let s = gives seal z in
        Uses s (next_at z (place_of d k)) × (written s ≡ envelope z.core t s.values.count (bearer_no k) (direction_no d) inner) × (s.values.wrote ≡ 7 + length inner)
    enveloped seal t d k inner out shape h =
        let w = writes-by seal z (place_of d k) (λ c. envelope z.core t c (bearer_no k) (direction_no d) inner) out shape h in
        (w.0, w.1, w.2 ∙ envelope-long z.core t (gives seal z).values.count (bearer_no k) (direction_no d) inner)

-- when there is 18 inside
asked-for : (t d : ℕ) (f : List ℕ → List ℕ) (p : List ℕ) (b : Bool) → is_asked t d p ≡ b → hidden_of t d f p ≡ refused → is_asked t d p ≡ true
unfolding hidden_of
asked-for t d f p true e h = e
asked-for t d f p false e h = let z : handed [] ≡ refused = rw e at h in let w : ◌≡◌ {A = ℕ} 0 1 = cc in absurd (omega arith)

ends-exactly : (t d : ℕ) (f : List ℕ → List ℕ) (p : List ℕ) → (hidden_of t d f p ≡ refused) ↔ ((is_asked t d p ≡ true) × (ends_in18 f p ≡ true))
ends-exactly t d f p = (
  (λ e.
      let a = asked-for t d f p (is_asked t d p) refl e in
      let i = asked_is t d p a in
      (a, ((laws.inside f p).ends i.2).0 (rw (i.0, i.1) at e))),
  λ h. let i = asked_is t d p h.0 in rw (i.0, i.1) (((laws.inside f p).ends i.2).1 h.1),
)

none_inside : (h : Hidden) → (h ≡ refused → ⊥) → inside_number 0 h ≡ 0
unfolding inside_number
none_inside refused n = absurd (n refl)
none_inside (handed q) n = refl

-- opening what was sealed, where it is taken as its COUNT
module _ (x : Context) (d : Direction) (k : Connection) (t c : ℕ) (inner room room2 : List ℕ) (from : 1 ≤ t) (to : t ≤ 4) where
  abbrev m : List ℕ
  m = envelope x.core t c (bearer_no k) (direction_no d) inner

  abbrev o : Outcome
  o = gives (open5gs d k m room room2) x

  back : payload x.core (ciphers (type_of m)) c (bearer_no k) (direction_no d) (drop 7 m) ≡ inner
  back = envelope-back x.core t c (bearer_no k) (direction_no d) inner from to

  open-trip : Uses o c → TakenAs o c inner room
  open-trip u =
      let b = bearer_no k in let e = direction_no d in let p = place_of d k in
      let q = open-left x d k m room room2 (uses-passed (open5gs d k m room room2) x u.0) in
      let a = open-answering x p b e m room in
      let u' : Uses (left open_values open'.Refused (opened_as x p b e m room) (plain x p b e m room) a x p room (found x p b e m room)) c =
      subst (λ (w : Outcome). Uses w c) q u in
      rw q ((takes-taken holding open_values open'.Refused (opened_as x p b e m room) (plain x p b e m room) a x p room c inner back (found x p b e m room)).0
      (names holding open_values open'.Refused (opened_as x p b e m room) (plain x p b e m room) a x p room (found x p b e m room) c u'.0 u'.1))

  trip-header : Uses o c → o.values.header ≡ t
  trip-header u = ((demand1-open x).tells d k m room room2 (open-trip u).number).0 ∙ envelope-type x.core t c (bearer_no k) (direction_no d) inner from to

  -- what is inside it
  abbrev hidden : Hidden
  hidden = beside_of x.core t c (bearer_no k) (direction_no d) inner

  trip-carried : Uses o c → o.values.carried ≡ inside_number (look_of t (direction_no d) inner) hidden
  trip-carried u =
      ((demand1-open x).tells d k m room room2 (open-trip u).number).1
      ∙ rw (u.1, back, envelope-type x.core t c (bearer_no k) (direction_no d) inner from to)

  -- a content that passes the look is no 8, but where there is 18 inside
  module _ (l : look_of t (direction_no d) inner ≡ 0) (u : Uses o c) where
    carried-is : o.values.carried ≡ inside_number 0 hidden
    carried-is = trip-carried u ∙ ap (λ (n : ℕ). inside_number n hidden) l

    trip-succeeds : (hidden ≡ refused → ⊥) → Succeeds o
    trip-succeeds n =
        ⊎_elim (λ e. e)
        (λ e.
        absurd (not_there 0 (9 ∷ 10 ∷ 11 ∷ 18 ∷ []) refl
        (subst (λ (q : ℕ). In q (9 ∷ 10 ∷ 11 ∷ 18 ∷ [])) (carried-is ∙ none_inside hidden n) ((demand1-open x).carries d k m room room2 e))))
        (open-trip u).number

    trip-refused : hidden ≡ refused → (o.values.number ≡ 8) × (o.values.carried ≡ 18)
    unfolding inside_number
    trip-refused r =
        let e : o.values.carried ≡ 18 = carried-is ∙ ap (inside_number 0) r in
        (⊎_elim (λ z. absurd (omega (arith, carries-none x d k m room room2 z, e))) (λ z. z) (open-trip u).number, e)

  -- what is then in the second output
  trip-inside : Uses o c → (o.values.second ≡ length (beside hidden)) × (second (open5gs d k m room room2) x ≡ over (beside hidden) room2)
  trip-inside u =
      let e = envelope-type x.core t c (bearer_no k) (direction_no d) inner from to in
      let h : inside5gs x d k m o.values.count ≡ hidden = rw (u.1, back, e) in
      rw (← h) ((demand1-open x).inside d k m room room2 (open-trip u).number)

-- the same for EPS
module _ (x : Context) (c : ℕ) (inner room : List ℕ) where
  abbrev m_eps : List ℕ
  m_eps = eps_message x.core c inner

  abbrev eps_left : Opening → Outcome
  eps_left o = left eps_open_values eps.Refused (eps_as x m_eps room) (λ c. drop 6 m_eps) (eps-answering x m_eps room) x eps_place room o

  eps-left-now : Uses (gives (open_eps m_eps room) x) c → gives (open_eps m_eps room) x ≡ eps_left (eps_found x m_eps room)
  eps-left-now u = eps-left x m_eps room (uses-passed (open_eps m_eps room) x u.0)

  eps-trip : Uses (gives (open_eps m_eps room) x) c → TakenAs (gives (open_eps m_eps room) x) c inner room
  eps-trip u =
      let a = eps-answering x m_eps room in
      let q = eps-left-now u in
      let u' : Uses (eps_left (eps_found x m_eps room)) c = subst (λ (w : Outcome). Uses w c) q u in
      rw q ((takes-taken holding eps_open_values eps.Refused (eps_as x m_eps room) (λ c. drop 6 m_eps) a x eps_place room c inner (eps-sealed x.core c inner).body-there
      (eps_found x m_eps room)).0
      (names holding eps_open_values eps.Refused (eps_as x m_eps room) (λ c. drop 6 m_eps) a x eps_place room (eps_found x m_eps room) c u'.0 u'.1))

  eps-number : not_eps (drop 6 m_eps) ≡ false → (o : Opening) → (eps_left o).values.uses ≡ true → (eps_left o).values.number ≡ 0
  eps-number e (Err NoCandidate) u = let z : ◌≡◌ {A = ℕ} 0 1 = cc in absurd (omega arith)
  eps-number e (Err WrongCode) u = let z : ◌≡◌ {A = ℕ} 0 1 = cc in absurd (omega arith)
  eps-number e (Ok (Late c')) u = rw e
  eps-number e (Ok (Forward c')) u = rw e

  eps-succeeds : not_eps inner ≡ false → Uses (gives (open_eps m_eps room) x) c → Succeeds (gives (open_eps m_eps room) x)
  eps-succeeds e u =
      let q = eps-left-now u in
      rw q (eps-number (ap not_eps (eps-sealed x.core c inner).body-there ∙ e) (eps_found x m_eps room) (subst (λ (w : Outcome). Uses w c) q u).0)

-- what a seal that succeeds has passed
pub type-right : (t : ℕ) → wrong_type t ≡ false → (1 ≤ t) × (t ≤ 4)
unfolding wrong_type
type-right t e = go (ltb t 1) (ltb 4 t) refl refl e
  where
    go : (a b : Bool) → ltb t 1 ≡ a → ltb 4 t ≡ b → a || b ≡ false → (1 ≤ t) × (t ≤ 4)
    go true b p q h = let z : ◌≡◌ {A = ℕ} 0 1 = cc in absurd (omega arith)
    go false true p q h = let z : ◌≡◌ {A = ℕ} 0 1 = cc in absurd (omega arith)
    go false false p q h = (ltb-false t 1 p, ltb-false 4 t q)

pub look-passed : (t d : ℕ) (m : List ℕ) → not_known m ≡ false → not_together t m ≡ false → wrong_way d m ≡ false → look_of t d m ≡ 0
unfolding look_of
look-passed t d m a b c = simp (a, b, c)

module _ (z : Context) (t : ℕ) (d : Direction) (k : Connection) (inner out : List ℕ) where
  abbrev seal-list : List ℕ
  seal-list = seal_refusals z t (place_of d k) (direction_no d) inner (length out)

  pub seal-passed : Succeeds (gives (seal5gs t d k inner out) z) → (i : ℕ) → get_or seal-list i 0 ≡ 0
  unfolding seal_refusal
  seal-passed h = passed seal-list (opened-passed (seal5gs t d k inner out) z (inl h))

  pub seal-type : Succeeds (gives (seal5gs t d k inner out) z) → (1 ≤ t) × (t ≤ 4)
  seal-type h = type-right t (off 3 (wrong_type t) (omega arith) (seal-passed h 2))

  pub seal-look : Succeeds (gives (seal5gs t d k inner out) z) → look_of t (direction_no d) inner ≡ 0
  seal-look h =
      look-passed t (direction_no d) inner (off 9 (not_known inner) (omega arith) (seal-passed h 1))
      (off 10 (not_together t inner) (omega arith) (seal-passed h 3)) (off 11 (wrong_way (direction_no d) inner) (omega arith) (seal-passed h 4))

  pub opaque-type : Succeeds (gives (seal_opaque t d k inner out) z) → (1 ≤ t) × (t ≤ 4)
  unfolding opaque_refusal
  opaque-type h =
      let l = opaque_refusals z t (place_of d k) inner (length out) in
      type-right t (off 3 (wrong_type t) (omega arith) (passed l (opened-passed (seal_opaque t d k inner out) z (inl h)) 1))

pub eps-content : (z : Context) (inner out : List ℕ) → Succeeds (gives (seal_eps inner out) z) → not_eps inner ≡ false
unfolding seal_eps_refusal
eps-content z inner out h =
    off 12 (not_eps inner) (omega arith) (passed (seal_eps_refusals z inner (length out)) (opened-passed (seal_eps inner out) z (inl h)) 1)

-- what is inside, by its definition
is_hidden : (x : Context) (d : Direction) (k : Connection) (t c : ℕ) (inner : List ℕ)
    → beside_of x.core t c (bearer_no k) (direction_no d) inner ≡ hidden_of t (direction_no d) (λ v. payload x.core true c (bearer_no k) 0 v) inner
unfolding beside_of
is_hidden x d k t c inner = refl

-- an initial message: what went out, and the whole message inside it
module _ (z x : Context) (keys : SameKeys z.core x.core) (k : Connection) (c : ℕ) (w room room2 : List ℕ) (i : is_initial w ≡ true) (a : is_hideable w ≡ true) where
  abbrev value : List ℕ
  value = payload z.core true c (bearer_no k) 0 w

  abbrev gone : List ℕ
  gone = outgoing z.core c (bearer_no k) w

  goes-as : gone ≡ outer_of w value
  unfolding outgoing
  goes-as = refl

  envelope-is : initial_envelope z.core c (bearer_no k) w ≡ envelope x.core 1 c (bearer_no k) 0 gone
  unfolding initial_envelope
  envelope-is = envelope-same x.core z.core c (bearer_no k) 0 keys 1 gone

  gone-looks : look_of 1 0 gone ≡ 0
  gone-looks =
      let h = (laws.walks w).whole a in
      rw goes-as ((laws.inside (λ v. v) (outer_of w value)).looks ((laws.out w value).initial h ∙ i))

  gone-inside : beside_of x.core 1 c (bearer_no k) 0 gone ≡ handed (cond (hides w) w [])
  gone-inside =
      is_hidden x Uplink k 1 c gone
      ∙ ap (hidden_of 1 0 (λ v. payload x.core true c (bearer_no k) 0 v)) goes-as
      ∙ laws.back (λ v. payload x.core true c (bearer_no k) 0 v) w value i a
      (ap (payload x.core true c (bearer_no k) 0) (payloads-same x.core z.core c (bearer_no k) 0 keys true w) ∙ payload_twice x.core c (bearer_no k) 0 w true)

  abbrev o_initial : Outcome
  o_initial = gives (open5gs Uplink k (envelope x.core 1 c (bearer_no k) 0 gone) room room2) x

  abbrev then_second : List ℕ
  then_second = second (open5gs Uplink k (envelope x.core 1 c (bearer_no k) 0 gone) room room2) x

  one_from : 1 ≤ 1
  one_from = omega arith

  one-to : 1 ≤ 4
  one-to = omega arith

  gone-plain : hides w ≡ false → gone ≡ w
  unfolding outgoing outer_of
  gone-plain e = rw e

  hands-whole : Uses o_initial c → HandsWhole w o_initial then_second room room2
  hands-whole u =
      let t = open-trip x Uplink k 1 c gone room room2 one_from one-to u in
      let s = rw gone-inside at (trip-inside x Uplink k 1 c gone room room2 one_from one-to u) in
      record {
        in-second = λ e. rw e at s;
        in-first = λ e. let n = rw e at s in let g = gone-plain e in (n.0, t.wrote ∙ ap length g, t.hands ∙ ap (λ (l : List ℕ). over l room) g, n.1);
      }

  trip-initial : Uses o_initial c
      → Succeeds o_initial × (o_initial.values.header ≡ 1) × TakenAs o_initial c gone room × HandsWhole w o_initial then_second room room2
  trip-initial u =
      let not-refused : beside_of x.core 1 c (bearer_no k) 0 gone ≡ refused → ⊥ =
      λ e. let z : handed (cond (hides w) w []) ≡ refused = sym gone-inside ∙ e in let n : ◌≡◌ {A = ℕ} 0 1 = cc in omega arith in (
        trip-succeeds x Uplink k 1 c gone room room2 one_from one-to gone-looks u not-refused,
        trip-header x Uplink k 1 c gone room room2 one_from one-to u,
        open-trip x Uplink k 1 c gone room room2 one_from one-to u,
        hands-whole u,
      )

initial-trip : (z x : Context) → SameKeys z.core x.core → (k : Connection) (w out room room2 : List ℕ)
    → let s = gives (seal_initial k w out) z in
    let o = gives (open5gs Uplink k (written s) room room2) x in
    Succeeds s → Uses o s.values.count
    → Succeeds o × (o.values.header ≡ 1) × TakenAs o s.values.count (outgoing z.core s.values.count (bearer_no k) w) room
    × HandsWhole w o (second (open5gs Uplink k (written s) room room2) x) room room2
initial-trip z x keys k w out room room2 h u =
    let s = gives (seal_initial k w out) z in
    let c = s.values.count in
    let q = initial-is z (place_of Uplink k) w (length out) (opened-passed (seal_initial k w out) z (inl h)) in
    let e = ((writes z).initial k w out h).1 ∙ envelope-is z x keys k c w room room2 q.0 q.1 in
    let u' = subst (λ (n : List ℕ). Uses (gives (open5gs Uplink k n room room2) x) c) e u in
    subst
    (λ (n : List ℕ).
    let o = gives (open5gs Uplink k n room room2) x in
    Succeeds o × (o.values.header ≡ 1) × TakenAs o c (outgoing z.core c (bearer_no k) w) room
    × HandsWhole w o (second (open5gs Uplink k n room room2) x) room room2)
    (sym e) (trip-initial z x keys k c w room room2 q.0 q.1 u')

pub returns : (z x : Context) → SameKeys z.core x.core → RoundTrip z x
returns z x keys =
    record {
      seal = λ t d k inner out room room2 h u.
          let s = gives (seal5gs t d k inner out) z in
          let c = s.values.count in
          let e = ((writes z).seal t d k inner out h).1 ∙ envelope-same x.core z.core c (bearer_no k) (direction_no d) keys t inner in
          let r = seal-type z t d k inner out h in
          let l = seal-look z t d k inner out h in
          let u' = subst (λ (n : List ℕ). Uses (gives (open5gs d k n room room2) x) c) e u in
          let ends = ends-exactly t (direction_no d) (λ v. payload x.core true c (bearer_no k) 0 v) inner in
          subst
          (λ (n : List ℕ).
          let o = gives (open5gs d k n room room2) x in
          (o.values.header ≡ t) × TakenAs o c inner room × (EndsIn18 x t d k c inner → (o.values.number ≡ 8) × (o.values.carried ≡ 18))
          × ((EndsIn18 x t d k c inner → ⊥) → Succeeds o))
          (sym e) (
            trip-header x d k t c inner room room2 r.0 r.1 u',
            open-trip x d k t c inner room room2 r.0 r.1 u',
            (λ q. trip-refused x d k t c inner room room2 r.0 r.1 l u' (is_hidden x d k t c inner ∙ ends.1 q)),
            λ n. trip-succeeds x d k t c inner room room2 r.0 r.1 l u' (λ q. n (ends.0 (sym (is_hidden x d k t c inner) ∙ q))),
          );
      initial = λ k w out room room2 h u. initial-trip z x keys k w out room room2 h u;
      opaque = λ t d k inner out room room2 h u.
          let s = gives (seal_opaque t d k inner out) z in
          let c = s.values.count in
          let e = ((writes z).opaque t d k inner out h).1 ∙ envelope-same x.core z.core c (bearer_no k) (direction_no d) keys t inner in
          let r = opaque-type z t d k inner out h in
          let u' = subst (λ (n : List ℕ). Uses (gives (open5gs d k n room room2) x) c) e u in
          subst
          (λ (n : List ℕ). let o = gives (open5gs d k n room room2) x in (o.values.header ≡ t) × TakenAs o c inner room)
          (sym e)
          (trip-header x d k t c inner room room2 r.0 r.1 u', open-trip x d k t c inner room room2 r.0 r.1 u');
      eps = λ inner out room h u.
          let s = gives (seal_eps inner out) z in
          let c = s.values.count in
          let e = ((writes z).eps inner out h).1 ∙ eps-same x.core z.core c keys inner in
          let u' = subst (λ (n : List ℕ). Uses (gives (open_eps n room) x) c) e u in
          subst
          (λ (n : List ℕ). let o = gives (open_eps n room) x in Succeeds o × TakenAs o c inner room)
          (sym e)
          (eps-succeeds x c inner room (eps-content z inner out h) u', eps-trip x c inner room u');
    }
