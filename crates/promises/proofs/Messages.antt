-- The 5GS context as an instance of crate promise: the words of a run, contexts that are good, and its two kinds of message.
use Prim.Native.Nat.{ℕ, ◌%◌, ◌≤◌, ◌<◌}
use mathlib.Core.Path.{◌≡◌, refl, sym, ap, ◌∙◌, subst}
use mathlib.Core.Bool.{Bool, true, false, cond}
use mathlib.Core.Logic.{◌⊎◌, inl, inr}
use mathlib.Core.List.{List, []}
use native.Mathlib.Omega.{arith}
use lib.ListN.{length, drop}
use lib.Dec.{eqb}
use Rattle.count.specs.Rule.{Opening, exhausted, opening}
use Rattle.count.specs.Run.{Act, stay, act, act_of, used, Valid}
use Rattle.count.specs.Machine.{Machine, records_after}
use Rattle.nas_core.specs.declared.Core.{Core}
use Rattle.nas_core.specs.Keyed.{wraps, payload}
use Rattle.nas_core.specs.Refusals.{limit}
use Rattle.nas_core.specs.Verify.{fits, verify_of}
use Rattle.nas_5gs.specs.declared.Context.{Context}
use Rattle.nas_core.specs.declared.Direction.{Direction}
use Rattle.nas_5gs.specs.declared.Connection.{Connection}
use Rattle.nas_5gs.specs.Places.{direction_no, bearer_no, place_of, record_at, fault_of}
use Rattle.nas_5gs.specs.Envelope.{ciphers, envelope}
use Rattle.nas_5gs.specs.Open.{type_of, open_refusal, room_for}
use Rattle.nas_5gs.specs.Eps.{eps_place, eps_bearer, eps_direction, eps_message, open_eps_refusal}
use Rattle.promise.specs.Words.{Words}
use Rattle.promise.specs.Kept.{Keeping}
use Rattle.promise.specs.Messages.{Kind, ByRule, AllByRule}
use Rattle.promise.proofs.Acts.{unless}
use Rattle.promise.proofs.Sealed.{fits-same, verify-is}
use Rattle.promise.proofs.Answers.{named, names, takes-taken}
use Rattle.promises.specs.Calls.{Call, set_window, reselect, seal5gs, seal_opaque, seal_initial, open5gs, seal_eps, open_eps, make_n1_to_s1, verify_n1_to_s1, make_s1_to_n1, verify_s1_to_n1, Outcome, gives, place_in, context_after, counts_used, used_by}
use Rattle.promises.specs.Words.{SameKeys, record_of, Uses, TakenAs}
use Rattle.promises.specs.Demand3.{InsideSince}
use Rattle.promises.proofs.Shapes.{holding, does, Reselects, acts, found, eps_found}
use Rattle.promises.proofs.Soundness.{Good, does-valid, stays-four}
use Rattle.promises.proofs.Passing.{alone}
use Rattle.promises.proofs.Faults.{Faultless, stays-faultless}
use Rattle.promises.proofs.Opening.{Sealed, envelope-sealed, eps-sealed, envelope-same, eps-same}
use Rattle.promises.proofs.Taking.{no-fault, open-answering, eps-answering, open-left, eps-left, has_room, open-passes, eps-passes, envelope-type, envelope-first, envelope-long, envelope-back, eps-first}

-- The context that refuses every reselection to null. What is kept holds of it over any calls, and ours is it as long as no reselection to null is accepted.
abbrev pub to_null : Call → Bool
to_null (set_window n) = false
to_null (reselect i c ik ck) = eqb i 0
to_null (seal5gs t d k inner out) = false
to_null (seal_opaque t d k inner out) = false
to_null (seal_initial k w out) = false
to_null (open5gs d k m out out2) = false
to_null (seal_eps inner out) = false
to_null (open_eps m out) = false
to_null make_n1_to_s1 = false
to_null (verify_n1_to_s1 s) = false
to_null (make_s1_to_n1 ncc ngksi out) = false
to_null (verify_s1_to_n1 v) = false

abbrev pub gives_guarded : Call → Context → Outcome
gives_guarded k x = cond (to_null k) (alone 13 x []) (gives k x)

abbrev pub guarded_machine : Machine Context Call
guarded_machine =
    record {
      size = λ x. x.core.size;
      records = λ x. x.records;
      gives = λ k x. (gives_guarded k x).context;
      place = λ k x. place_in k;
      does = λ k x. cond (to_null k) stay (does k x);
    }

-- each equation of a reader's word is how it is written
abbrev pub words : Words guarded_machine
words =
    record {
      answered = λ k x. used_by (gives_guarded k x).values;
      after = context_after gives_guarded;
      counts = counts_used gives_guarded;
      lain = InsideSince gives_guarded;
      after_none = λ x. refl;
      after_call = λ k x ks. refl;
      counts-none = λ p x. refl;
      counts-call = λ p k x ks. refl;
      lain-none = λ p x c h. h;
      lain-call = λ p k x ks c. ((λ h. h), λ h. h);
    }

-- non-null integrity and no fault
pub record Guarded (x : Context) : Type 0 where
  pub good : Good x
  pub ok : Faultless x

module _ (k : Call) (x : Context) (g : Guarded x) where
  size-guarded : (t : Bool)
      → (cond t (alone 13 x []) (gives k x)).context.core.size ≡ (act (cond t stay (does k x)) (record_of (place_in k) x)).size
  size-guarded true = refl
  size-guarded false = (acts k x g.good.four).size-after

  records-guarded : (t : Bool)
      → (cond t (alone 13 x []) (gives k x)).context.records ≡ records_after (place_in k) (cond t stay (does k x)) x.core.size x.records
  records-guarded true = refl
  records-guarded false = (acts k x g.good.four).records-after

  counts-guarded : (t : Bool) → used_by (cond t (alone 13 x []) (gives k x)).values ≡ used (cond t stay (does k x))
  counts-guarded true = refl
  counts-guarded false = (acts k x g.good.four).counts

  valid-guarded : (t : Bool) → Valid (cond t stay (does k x)) (record_of (place_in k) x)
  valid-guarded true = tt
  valid-guarded false = does-valid x g.good.guarded k

  not_null : to_null k ≡ false → SameKeys x.core (gives k x).context.core ⊎ Reselects k x → wraps (gives k x).context.core ≡ false
  unfolding wraps
  not_null e (inl s) = rw (← s.integrity) g.good.guarded
  not_null e (inr r) = rw r.core-after (subst (λ (k : Call). to_null k ≡ false) r.is e)

  stays-guarded : (t : Bool) → to_null k ≡ t → Guarded (cond t (alone 13 x []) (gives k x)).context
  stays-guarded true e = g
  stays-guarded false e =
      record {
        good = record { four = stays-four k x g.good.four; guarded = not_null e (acts k x g.good.four).keys-after };
        ok = stays-faultless k x g.good.four g.ok;
      }

pub keeping : Keeping words Guarded
keeping =
    record {
      sound =
          record {
            acting = record { size-after = λ k x g. size-guarded k x g (to_null k); records-after = λ k x g. records-guarded k x g (to_null k) };
            stays = λ k x g. stays-guarded k x g (to_null k) refl;
            valid = λ k x g. valid-guarded k x g (to_null k);
          };
      answers = λ k x g. counts-guarded k x g (to_null k);
    }

pub fault-none : (x : Context) → Guarded x → fault_of x ≡ 0
fault-none x g = no-fault x g.ok.built g.ok.small g.ok.counts

-- A message but for its COUNT: the sealer's keys and codes, where it goes, the header type, the inner octets, and the opener's outputs.
pub data Message : Type 0 where
  five_gs : Core → Direction → Connection → ℕ → List ℕ → List ℕ → List ℕ → Message
  eps : Core → List ℕ → List ℕ → Message

abbrev pub message_place : Message → ℕ
message_place (five_gs y d k t inner out out2) = place_of d k
message_place (eps y inner out) = eps_place

abbrev pub octets_for : Message → ℕ → List ℕ
octets_for (five_gs y d k t inner out out2) c = envelope y t c (bearer_no k) (direction_no d) inner
octets_for (eps y inner out) c = eps_message y c inner

abbrev pub fits_as : Message → ℕ → ℕ → Bool
fits_as (five_gs y d k t inner out out2) c c' = fits y c' (bearer_no k) (direction_no d) 2 (envelope y t c (bearer_no k) (direction_no d) inner)
fits_as (eps y inner out) c c' = fits y c' eps_bearer eps_direction 1 (eps_message y c inner)

abbrev pub open_call : Message → ℕ → Call
open_call (five_gs y d k t inner out out2) c = open5gs d k (envelope y t c (bearer_no k) (direction_no d) inner) out out2
open_call (eps y inner out) c = open_eps (eps_message y c inner) out

abbrev pub keys_of : Message → Core
keys_of (five_gs y d k t inner out out2) = y
keys_of (eps y inner out) = y

abbrev pub inner_of : Message → List ℕ
inner_of (five_gs y d k t inner out out2) = inner
inner_of (eps y inner out) = inner

abbrev pub room_of : Message → List ℕ
room_of (five_gs y d k t inner out out2) = out
room_of (eps y inner out) = out

abbrev pub TypeRight : Message → Type 0
TypeRight (five_gs y d k t inner out out2) = (1 ≤ t) × (t ≤ 4)
TypeRight (eps y inner out) = Unit {0}

abbrev pub SecondRoom : Message → Type 0
SecondRoom (five_gs y d k t inner out out2) = t ≡ 1 → direction_no d ≡ 0 → length inner ≤ length out2
SecondRoom (eps y inner out) = Unit {0}

pub record Ready (x : Context) (m : Message) (c : ℕ) : Type 0 where
  pub same : SameKeys (keys_of m) x.core
  pub type : TypeRight m
  pub count : c < exhausted
  pub some : 1 ≤ length (inner_of m)
  pub low : length (inner_of m) ≤ limit
  pub room : length (inner_of m) ≤ length (room_of m)
  pub room2 : SecondRoom m

abbrev pub messages : Kind guarded_machine
messages =
    record {
      Message = Message;
      place = message_place;
      bits = 8;
      late = true;
      fits = fits_as;
      call = open_call;
      Ready = Ready;
      Taken = λ x m c. TakenAs (gives (open_call m c) x) c (inner_of m) (room_of m);
      Names = λ x m c c'. Uses (gives (open_call m c) x) c';
    }

if_none : (n : ℕ) (a : Act) → n ≡ 0 → unless n a ≡ a
if_none n a e = rw e refl

module _ (x : Context) (g : Guarded x) (c : ℕ) where
  -- what is found, by the sealer's keys
  found-is : (y : Core) → SameKeys y x.core → (p b d q : ℕ) (m body : List ℕ) → Sealed x.core c b d q m body
      → verify_of x.core (record_at x p) b d q m ≡ opening 8 false (λ c'. fits y c' b d q m) x.core.size (record_at x p) (c % 256)
  found-is y same p b d q m body s =
      verify-is x.core (record_at x p) c b d q m body g.good.guarded s
      ∙ ap (λ (f : ℕ → Bool). opening 8 false f x.core.size (record_at x p) (c % 256)) (fits-same x.core y same b d q m)

  acts-as : (o o' : Opening) → o ≡ o' → act_of (wraps x.core) o ≡ act_of false o'
  acts-as o o' e = rw (g.good.guarded, e) refl

  -- nothing but the COUNT refuses it
  pub passes-5gs : (y : Core) (d : Direction) (k : Connection) (t : ℕ) (inner out out2 : List ℕ) → Ready x (five_gs y d k t inner out out2) c
      → let m = envelope y t c (bearer_no k) (direction_no d) inner in
      open_refusal x m (room_for (type_of m) (direction_no d) (length out) (length out2)) ≡ 0
  passes-5gs y d k t inner out out2 r =
      let b = bearer_no k in
      let e = direction_no d in
      let m = envelope y t c b e inner in
      let type = envelope-type y t c b e inner r.type.0 r.type.1 in
      open-passes x (fault-none x g) m (length inner) (room_for (type_of m) e (length out) (length out2)) r.low
      (has_room (type_of m) e (length inner) (length out) (length out2) r.room (λ h. r.room2 (sym type ∙ h))) t (envelope-long y t c b e inner) r.some
      (envelope-first y t c b e inner) type r.type.0 r.type.1

  pub passes-eps : (y : Core) (inner out : List ℕ) → Ready x (eps y inner out) c → open_eps_refusal x (eps_message y c inner) (length out) ≡ 0
  passes-eps y inner out r =
      eps-passes x (fault-none x g) (eps_message y c inner) (length inner) (length out) r.low r.room (eps-sealed y c inner).long (eps-first y c inner)

  goes-5gs : (y : Core) (d : Direction) (k : Connection) (t : ℕ) (inner out out2 : List ℕ)
      → Ready x (five_gs y d k t inner out out2) c → ByRule messages x (five_gs y d k t inner out out2) c
  goes-5gs y d k t inner out out2 r =
      let b = bearer_no k in
      let e = direction_no d in
      let p = place_of d k in
      let m = envelope y t c b e inner in
      let from = r.type.0 in
      let to = r.type.1 in
      let q : m ≡ envelope x.core t c b e inner = envelope-same x.core y c b e r.same t inner in
      let s : Sealed x.core c b e 2 m (payload x.core (ciphers t) c b e inner) =
      subst (λ (m : List ℕ). Sealed x.core c b e 2 m (payload x.core (ciphers t) c b e inner)) (sym q) (envelope-sealed x.core c inner b e t) in
      let room = room_for (type_of m) e (length out) (length out2) in
      let pass = passes-5gs y d k t inner out out2 r in
      let a = open-answering x p b e m out in
      let f = found-is y r.same p b e 2 m _ s in
      let plain-is : payload x.core (ciphers (type_of m)) c b e (drop 7 m) ≡ inner =
      subst (λ (m : List ℕ). payload x.core (ciphers (type_of m)) c b e (drop 7 m) ≡ inner) (sym q) (envelope-back x.core t c b e inner from to) in
      record {
        count = r.count;
        small = λ l. omega (arith, g.ok.small);
        own = (envelope-sealed y c inner b e t).own;
        place = refl;
        does = if_none (open_refusal x m room) (act_of (wraps x.core) (found x p b e m out)) pass ∙ acts-as _ _ f;
        taken = rw (open-left x d k m out out2 pass, ← f) (takes-taken holding _ _ _ _ a x p out c inner plain-is _);
        names = λ c'. rw (open-left x d k m out out2 pass, ← f) (named holding _ _ _ _ a x p out _ c', λ u. names holding _ _ _ _ a x p out _ c' u.0 u.1);
      }

  goes-eps : (y : Core) (inner out : List ℕ) → Ready x (eps y inner out) c → ByRule messages x (eps y inner out) c
  goes-eps y inner out r =
      let m = eps_message y c inner in
      let q : m ≡ eps_message x.core c inner = eps-same x.core y c r.same inner in
      let s : Sealed x.core c eps_bearer eps_direction 1 m inner =
      subst (λ (m : List ℕ). Sealed x.core c eps_bearer eps_direction 1 m inner) (sym q) (eps-sealed x.core c inner) in
      let pass = passes-eps y inner out r in
      let a = eps-answering x m out in
      let f = found-is y r.same eps_place eps_bearer eps_direction 1 m _ s in
      record {
        count = r.count;
        small = λ l. omega (arith, g.ok.small);
        own = (eps-sealed y c inner).own;
        place = refl;
        does = if_none (open_eps_refusal x m (length out)) (act_of (wraps x.core) (eps_found x m out)) pass ∙ acts-as _ _ f;
        taken = rw (eps-left x m out pass, ← f) (takes-taken holding _ _ _ _ a x eps_place out c inner s.body-there _);
        names = λ c'. rw (eps-left x m out pass, ← f) (named holding _ _ _ _ a x eps_place out _ c', λ u. names holding _ _ _ _ a x eps_place out _ c' u.0 u.1);
      }

pub goes : AllByRule messages Guarded
goes x (five_gs y d k t inner out out2) c g r = goes-5gs x g c y d k t inner out out2 r
goes x (eps y inner out) c g r = goes-eps x g c y inner out r
