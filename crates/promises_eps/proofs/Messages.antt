-- The EPS context as an instance of crate promise: the words of a run, contexts that are good, and its two kinds of message.
use Prim.Native.Nat.{ℕ, ◌%◌, ◌≤◌, ◌<◌}
use mathlib.Core.Path.{◌≡◌, refl, sym, ap, ◌∙◌, subst}
use mathlib.Core.Bool.{Bool, true, false, cond}
use mathlib.Core.Logic.{◌⊎◌, inl, inr}
use mathlib.Core.List.{List, []}
use native.Mathlib.Omega.{arith}
use lib.ListN.{length, get_or, drop}
use lib.Dec.{eqb}
use Rattle.count.specs.Rule.{Opening, exhausted, opening, forward_only}
use Rattle.count.specs.Run.{Act, stay, act, act_of, used, Valid}
use Rattle.count.specs.Machine.{Machine, records_after}
use Rattle.nas_core.specs.declared.Core.{Core}
use Rattle.nas_core.specs.Types.{ciphers}
use Rattle.nas_core.specs.Keyed.{wraps, code_by, payload}
use Rattle.nas_core.specs.Refusals.{limit}
use Rattle.nas_core.specs.Verify.{fits}
use Rattle.nas_eps.specs.declared.Context.{Context}
use Rattle.nas_core.specs.declared.Direction.{Direction}
use Rattle.nas_core.specs.declared.Direction.TheVariants.{Uplink}
use Rattle.nas_eps.specs.Places.{uplink, place_of, record_at, fault_of}
use Rattle.nas_eps.specs.Octets.{bearer, message, type_of, service_request, short_code, short_fits, request_as}
use Rattle.nas_eps.specs.Open.{open_refusal}
use Rattle.nas_eps.proofs.Lengths.{message-length}
use Rattle.promise.specs.Words.{Words}
use Rattle.promise.specs.Kept.{Keeping}
use Rattle.promise.specs.Messages.{Kind, AllByRule}
use Rattle.promise.proofs.Acts.{unless}
use Rattle.promise.proofs.Answers.{named, names, takes-taken}
use Rattle.promise.proofs.Sealed.{Sealed, fits-same, verify-is}
use Rattle.promises_eps.specs.Calls.{Call, set_window, reselect, seal_message, seal_request, open_message, Outcome, gives, place_in, context_after, counts_used, used_by}
use Rattle.promises_eps.specs.Words.{SameKeys, record_of, Uses, TakenAs, AnswersRequest}
use Rattle.promises_eps.specs.Demand3.{InsideSince}
use Rattle.promises_eps.proofs.Shapes.{holding, does, Reselects, acts, found, plain}
use Rattle.promises_eps.proofs.Soundness.{Good, does-valid, stays_two}
use Rattle.promises_eps.proofs.Passing.{alone, gives-passed}
use Rattle.promises_eps.proofs.Faults.{Faultless, no-fault, stays-faultless}
use Rattle.promises_eps.proofs.Taking.{answering, left_by, message-type, message-low, message-other, message-sealed, message-back, message-same, message-passes, request-is, request-bits, request-names, request-own, request-passes, request-answered}

-- The context that refuses every reselection to null. What is kept holds of it over any calls, and ours is it as long as no reselection to null is accepted.
abbrev pub to_null : Call → Bool
to_null (set_window n) = false
to_null (reselect i c ik ck) = eqb i 0
to_null (seal_message t d inner out) = false
to_null (seal_request i out) = false
to_null (open_message d m out) = false

abbrev pub gives_guarded : Call → Context → Outcome
gives_guarded k x = cond (to_null k) (alone 13 x []) (gives k x)

abbrev pub guarded_machine : Machine Context Call
guarded_machine =
    record {
      size = λ x. x.core.size;
      records = λ x. x.records;
      gives = λ k x. (gives_guarded k x).context;
      place = λ k x. place_in k;
      does = λ k x. cond (to_null k) stay (does k x);
    }

-- each equation of a reader's word is how it is written
abbrev pub words : Words guarded_machine
words =
    record {
      answered = λ k x. used_by (gives_guarded k x).values;
      after = context_after gives_guarded;
      counts = counts_used gives_guarded;
      lain = InsideSince gives_guarded;
      after_none = λ x. refl;
      after_call = λ k x ks. refl;
      counts-none = λ p x. refl;
      counts-call = λ p k x ks. refl;
      lain-none = λ p x c h. h;
      lain-call = λ p k x ks c. ((λ h. h), λ h. h);
    }

-- non-null integrity and no fault
pub record Guarded (x : Context) : Type 0 where
  pub good : Good x
  pub ok : Faultless x

module _ (k : Call) (x : Context) (g : Guarded x) where
  size-guarded : (t : Bool)
      → (cond t (alone 13 x []) (gives k x)).context.core.size ≡ (act (cond t stay (does k x)) (record_of (place_in k) x)).size
  size-guarded true = refl
  size-guarded false = (acts k x g.good.two).size-after

  records-guarded : (t : Bool)
      → (cond t (alone 13 x []) (gives k x)).context.records ≡ records_after (place_in k) (cond t stay (does k x)) x.core.size x.records
  records-guarded true = refl
  records-guarded false = (acts k x g.good.two).records-after

  counts-guarded : (t : Bool) → used_by (cond t (alone 13 x []) (gives k x)).values ≡ used (cond t stay (does k x))
  counts-guarded true = refl
  counts-guarded false = (acts k x g.good.two).counts

  valid-guarded : (t : Bool) → Valid (cond t stay (does k x)) (record_of (place_in k) x)
  valid-guarded true = tt
  valid-guarded false = does-valid x g.good.guarded k

  not_null : to_null k ≡ false → SameKeys x.core (gives k x).context.core ⊎ Reselects k x → wraps (gives k x).context.core ≡ false
  unfolding wraps
  not_null e (inl s) = rw (← s.integrity) g.good.guarded
  not_null e (inr r) = rw r.core-after (subst (λ (k : Call). to_null k ≡ false) r.is e)

  stays-guarded : (t : Bool) → to_null k ≡ t → Guarded (cond t (alone 13 x []) (gives k x)).context
  stays-guarded true e = g
  stays-guarded false e =
      record {
        good = record { two = stays_two k x g.good.two; guarded = not_null e (acts k x g.good.two).keys-after };
        ok = stays-faultless k x g.good.two g.ok;
      }

pub keeping : Keeping words Guarded
keeping =
    record {
      sound =
          record {
            acting = record { size-after = λ k x g. size-guarded k x g (to_null k); records-after = λ k x g. records-guarded k x g (to_null k) };
            stays = λ k x g. stays-guarded k x g (to_null k) refl;
            valid = λ k x g. valid-guarded k x g (to_null k);
          };
      answers = λ k x g. counts-guarded k x g (to_null k);
    }

fault-none : (x : Context) → Guarded x → fault_of x ≡ 0
fault-none x g = no-fault x g.ok

if_none : (n : ℕ) (a : Act) → n ≡ 0 → unless n a ≡ a
if_none n a e = rw e refl

acts-as : (x : Context) → Guarded x → (o o' : Opening) → o ≡ o' → act_of (wraps x.core) o ≡ act_of false o'
acts-as x g o o' e = rw (g.good.guarded, e) refl

-- A message of types 1 to 4 but for its COUNT: the sealer's keys and codes, direction, header type, inner octets, and the opener's output.
pub record Message : Type 0 where
  pub keys : Core
  pub way : Direction
  pub type : ℕ
  pub inner : List ℕ
  pub out : List ℕ

abbrev pub octets_of : Message → ℕ → List ℕ
octets_of m c = message m.keys m.type c (place_of m.way) m.inner

pub record Ready (x : Context) (m : Message) (c : ℕ) : Type 0 where
  pub same : SameKeys m.keys x.core
  pub from : 1 ≤ m.type
  pub to : m.type ≤ 4
  pub count : c < exhausted
  pub some : 1 ≤ length m.inner
  pub low : length m.inner ≤ limit
  pub room : length m.inner ≤ length m.out

abbrev pub messages : Kind guarded_machine
messages =
    record {
      Message = Message;
      place = λ m. place_of m.way;
      bits = 8;
      late = true;
      fits = λ m c c'. fits m.keys c' bearer (place_of m.way) 1 (octets_of m c);
      call = λ m c. open_message m.way (octets_of m c) m.out;
      Ready = Ready;
      Taken = λ x m c. TakenAs (gives (open_message m.way (octets_of m c) m.out) x) c m.inner m.out;
      Names = λ x m c c'. Uses (gives (open_message m.way (octets_of m c) m.out) x) c';
    }

pub goes : AllByRule messages Guarded
goes x n c g r =
    let y = n.keys in
    let p = place_of n.way in
    let t = n.type in
    let inner = n.inner in
    let out = n.out in
    let m = octets_of n c in
    let q : m ≡ message x.core t c p inner = message-same x.core y r.same t c p inner in
    let s : Sealed x.core c 0 p 1 m (payload x.core (ciphers t) c 0 p inner) =
    subst (λ (m : List ℕ). Sealed x.core c 0 p 1 m (payload x.core (ciphers t) c 0 p inner)) (sym q) (message-sealed x.core t c p inner) in
    let pass = message-passes x (fault-none x g) p m (length inner) (length out) t r.low r.room (message-length y t c p inner) r.some
    (message-low y t c p inner) (message-type y t c p inner r.from r.to) r.from r.to in
    let a = answering x p m in
    let other = message-other y t c p inner r.from r.to in
    let f : found x p m ≡ opening 8 false (λ c'. fits y c' bearer p 1 m) x.core.size (record_at x p) (c % 256) =
    rw other (verify-is x.core (record_at x p) c 0 p 1 m _ g.good.guarded s
    ∙ ap (λ (f : ℕ → Bool). opening 8 false f x.core.size (record_at x p) (c % 256)) (fits-same x.core y r.same 0 p 1 m)) in
    let plain-is : plain x p m c ≡ inner =
    rw other (subst (λ (m : List ℕ). payload x.core (ciphers (type_of m)) c 0 p (drop 6 m) ≡ inner) (sym q) (message-back x.core t c p inner r.from r.to)) in
    let left_is = gives-passed (open_message n.way m out) x pass in
    record {
      count = r.count;
      small = λ l. omega (arith, g.ok.small);
      own = (message-sealed y t c p inner).own;
      place = refl;
      does = if_none (open_refusal x p m (length out)) (act_of (wraps x.core) (found x p m)) pass ∙ acts-as x g _ _ f;
      taken = rw (left_is, ← f) (takes-taken holding _ _ _ _ a x p out c inner plain-is _);
      names = λ c'. rw (left_is, ← f) (named holding _ _ _ _ a x p out _ c', λ u. names holding _ _ _ _ a x p out _ c' u.0 u.1);
    }

-- A SERVICE REQUEST but for its COUNT: the sealer's keys and codes, the identifier, and the opener's output.
pub record Request : Type 0 where
  pub keys : Core
  pub identifier : ℕ
  pub out : List ℕ

abbrev pub request_of : Request → ℕ → List ℕ
request_of m c = service_request m.keys m.identifier c

pub record RequestReady (x : Context) (m : Request) (c : ℕ) : Type 0 where
  pub same : SameKeys m.keys x.core
  pub count : c < exhausted

abbrev pub requests : Kind guarded_machine
requests =
    record {
      Message = Request;
      place = λ m. uplink;
      bits = 5;
      late = false;
      fits = λ m c c'. short_fits m.keys c' (request_of m c);
      call = λ m c. open_message Uplink (request_of m c) m.out;
      Ready = RequestReady;
      Taken = λ x m c. AnswersRequest (gives (open_message Uplink (request_of m c) m.out) x) c m.identifier m.out;
      Names = λ x m c c'. Uses (gives (open_message Uplink (request_of m c) m.out) x) c';
    }

short-one : (x y : Core) → SameKeys y x → (m : List ℕ) (c : ℕ) → short_fits x c m ≡ short_fits y c m
unfolding short_fits short_code wraps code_by
short-one x y k m c = rw (← k.integrity, ← k.integrity-key)

short-same : (x y : Core) → SameKeys y x → (m : List ℕ) → ◌≡◌ {A = ℕ → Bool} (λ c. short_fits x c m) (λ c. short_fits y c m)
short-same x y k m = λ i c. short-one x y k m c i

request-found : (x : Context) (m : List ℕ) (c : ℕ) → wraps x.core ≡ false → get_or m 1 0 % 32 ≡ c % 32
    → request_as x.core (record_at x uplink) m ≡ forward_only 5 false (λ c'. short_fits x.core c' m) (record_at x uplink) (c % 32)
unfolding request_as
request-found x m c w e = rw (w, e)

pub request-goes : AllByRule requests Guarded
request-goes x n c g r =
    let y = n.keys in
    let out = n.out in
    let m = request_of n c in
    let pass = request-passes y n.identifier c x (fault-none x g) (length out) in
    let is = request-is y n.identifier c in
    let a = answering x uplink m in
    let f : found x uplink m ≡ forward_only 5 false (λ c'. short_fits y c' m) (record_at x uplink) (c % 32) =
    rw is (request-found x m c g.good.guarded (request-bits y n.identifier c)
    ∙ ap (λ (f : ℕ → Bool). forward_only 5 false f (record_at x uplink) (c % 32)) (short-same x.core y r.same m)) in
    let left_is = gives-passed (open_message Uplink m out) x pass in
    record {
      count = r.count;
      small = λ l. let z : ◌≡◌ {A = ℕ} 0 1 = cc in absurd (omega arith);
      own = request-own y n.identifier c;
      place = refl;
      does = if_none (open_refusal x uplink m (length out)) (act_of (wraps x.core) (found x uplink m)) pass ∙ acts-as x g _ _ f;
      taken =
          rw (left_is, ← f) (
            (λ t. subst (λ (i : ℕ). AnswersRequest (left_by x uplink m out (found x uplink m)) c i out) (request-names y n.identifier c) (request-answered x uplink m is out c (found x uplink m) t)),
            λ t. names holding _ _ _ _ a x uplink out _ c t.uses t.count,
          );
      names = λ c'. rw (left_is, ← f) (named holding _ _ _ _ a x uplink out _ c', λ u. names holding _ _ _ _ a x uplink out _ c' u.0 u.1);
    }
