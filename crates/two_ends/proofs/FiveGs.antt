-- The two ends of one record of a 5GS context meet: an instance of crate promise.
use Prim.Native.Nat.{ℕ, ◌%◌, ◌≤◌, ◌<◌}
use mathlib.Core.Path.{◌≡◌, refl, sym, ap, ◌∙◌, subst}
use mathlib.Core.Bool.{Bool, true, false}
use mathlib.Core.Logic.{◌⊎◌, inl, inr, ⊎_elim, ◌↔◌}
use mathlib.Core.List.{List}
use native.Mathlib.Omega.{arith}
use lib.ListN.{length}
use Rattle.count.specs.Rule.{Opening, exhausted, opening, resize_of}
use Rattle.count.specs.Run.{State, Act, uses, resize, forward, act, act_of, used}
use Rattle.count.specs.Machine.{seen}
use Rattle.count.specs.Facts.{Takes}
use Rattle.envelope.specs.Initial.{outgoing, initial_envelope}
use Rattle.envelope.proofs.Lengths.{outgoing-length}
use Rattle.nas_core.specs.declared.Core.{Core}
use Rattle.nas_core.specs.Keyed.{wraps}
use Rattle.nas_core.specs.Refusals.{limit}
use Rattle.nas_5gs.specs.declared.Context.{Context}
use Rattle.nas_core.specs.declared.Direction.{Direction}
use Rattle.nas_core.specs.declared.Direction.TheVariants.{Uplink, Downlink}
use Rattle.nas_5gs.specs.declared.Connection.{Connection}
use Rattle.nas_5gs.specs.OpenAnswer as open'
use Rattle.nas_5gs.specs.EpsOpenAnswer as eps'
use Rattle.nas_5gs.specs.Places.{direction_no, bearer_no, place_of, record_at, next_at}
use Rattle.nas_5gs.specs.Leaves.{use_next, open_values, eps_open_values}
use Rattle.nas_5gs.specs.Envelope.{envelope}
use Rattle.nas_5gs.specs.Eps.{eps_place, eps_message}
use Rattle.nas_5gs.proofs.Passed.{initial-whole}
use Rattle.promise.specs.Outcomes.{Outcome, used_by, SameKeys, Succeeds, Uses, TakenAs, written}
use Rattle.promise.specs.Messages.{ByRule, finds}
use Rattle.promise.specs.TwoEnds.{Sent}
use Rattle.promise.specs.Ends.{Sends, finds as finds_by, TakesBy, Shown}
use Rattle.promise.proofs.Acts.{same_keys}
use Rattle.promise.proofs.Answers.{refused-alone}
use Rattle.promise.proofs.Ends.{ends-meet}
use Rattle.promise.proofs.Messages.{through}
use Rattle.promises.specs.Calls.{Call, set_window, reselect, seal5gs, seal_opaque, seal_initial, open5gs, seal_eps, gives, second, lent, place_in}
use Rattle.promises.specs.Words.{record_of}
use Rattle.promises.specs.Demand2.{HandsWhole}
use Rattle.promises.specs.Demand3.{Fresh}
use Rattle.promises.proofs.Shapes.{holding, Reselects, next, passing, does, acts, found, plain, opened_as, eps_found, eps_as}
use Rattle.promises.proofs.Passing.{alone, gives-passed, uses-passed}
use Rattle.promises.proofs.Soundness.{trans-keys, record-after, own-after, stays-four}
use Rattle.promises.proofs.Faults.{stays-faultless}
use Rattle.promises.proofs.Opening.{envelope-same, eps-same}
use Rattle.promises.proofs.Taking.{open-answering, eps-answering, open-left, eps-left}
use Rattle.promises.proofs.Messages.{Guarded, Message, five_gs, eps, message_place, octets_for, fits_as, open_call, inner_of, room_of, Ready, messages, goes, passes-5gs, passes-eps}
use Rattle.promises.proofs.Demand1.{demand1, opened-passed}
use Rattle.promises.proofs.Demand2.{writes, returns}
use Rattle.promises.proofs.Accepting.{accepts}
use Rattle.promises.proofs.Demand3.{place-there, started}
use Rattle.promises.proofs.Delivery.{some-octets}
use Rattle.two_ends.specs.FiveGs.{Seal, looked, opaque, initial, eps as eps_seal, Lent, seal_call, Allowed, open_call as opens_by, code_fits, Room, AcceptedAs, NotTaken, five_gs as link, FiveGsEnds}
use Rattle.two_ends.proofs.Shared.{sends-by, left_alone}

back-keys : (x y : Core) → SameKeys x y → SameKeys y x
back-keys x y k =
    record { integrity = sym k.integrity; ciphering = sym k.ciphering; integrity-key = sym k.integrity-key; ciphering-key = sym k.ciphering-key }

-- contexts with the keys of z, with non-null integrity and no fault
record Alike (z x : Context) : Type 0 where
  guarded : Guarded x
  keys : SameKeys z.core x.core

-- every call but reselection leaves a context so
alike-after : (k : Call) (z x : Context) → Alike z x → ((i c : ℕ) (ik ck : List ℕ) → k ≡ reselect i c ik ck → ⊥) → Alike z (gives k x).context
unfolding wraps
alike-after k z x g never =
    let four = g.guarded.good.four in
    let keys = same (acts k x four).keys-after in
    record {
      guarded =
          record {
            good = record { four = stays-four k x four; guarded = rw (← keys.integrity) g.guarded.good.guarded };
            ok = stays-faultless k x four g.guarded.ok;
          };
      keys = trans-keys z.core x.core (gives k x).context.core g.keys keys;
    }
  where
    same : SameKeys x.core (gives k x).context.core ⊎ Reselects k x → SameKeys x.core (gives k x).context.core
    same (inl s) = s
    same (inr r) = absurd (never r.integrity r.ciphering r.integrity_key r.ciphering_key r.is)

on-record : (k : Call) → place_in k < 4 → (i c : ℕ) (ik ck : List ℕ) → k ≡ reselect i c ik ck → ⊥
on-record k h i c ik ck e = let q : place_in k ≡ 4 = ap place_in e in omega arith

uses-next : (k : Call) (x : Context) → Guarded x → passing k x ≡ next x (place_in k) → (gives k x).values.uses ≡ true
    → does k x ≡ uses forward (next_at x (place_in k))
uses-next k x g sends u = rw (uses-passed k x u, sends, g.good.guarded) refl

-- The receiver: a call that uses no COUNT is a refusal alone.
not_taken : (k : Call) (x : Context) → (gives k x ≡ alone 6 x (lent k)) ⊎ (gives k x ≡ alone 7 x (lent k)) → NotTaken k x
not_taken k x h =
    let a = left_alone (gives k x) x (lent k) h in
    record {
      values = a.0;
      context = a.1;
      output = a.2;
      output-second = ((demand1 k x).untouched (⊎_elim (numbered 6 (λ z. omega arith)) (numbered 7 (λ z. omega arith)) h)).1;
    }
  where
    numbered : (n : ℕ) → (n ≡ 0 → ⊥) → gives k x ≡ alone n x (lent k) → (gives k x).values.number ≡ 0 → ⊥
    numbered n some e z = some (sym (ap (λ (o : Outcome Context). o.values.number) e) ∙ z)

module _ (x : Context) (g : Guarded x) where
  after-by : (m : Message) (c : ℕ) → ByRule messages x m c
      → record_of (message_place m) (gives (open_call m c) x).context ≡ act (act_of false (finds messages x m c)) (record_of (message_place m) x)
  after-by (five_gs y d k t inner out out2) c b =
      own-after (open_call (five_gs y d k t inner out out2) c) x g.good.four (place-there d k) ∙ ap (λ (a : Act). act a (record_of (place_of d k) x)) b.does
  after-by (eps y inner out) c b =
      own-after (open_call (eps y inner out) c) x g.good.four (omega arith) ∙ ap (λ (a : Act). act a (record_of eps_place x)) b.does

  answers_by : (m : Message) (c : ℕ) → ByRule messages x m c → used_by (gives (open_call m c) x).values ≡ used (act_of false (finds messages x m c))
  answers_by (five_gs y d k t inner out out2) c b = (acts (open_call (five_gs y d k t inner out out2) c) x g.good.four).counts ∙ ap used b.does
  answers_by (eps y inner out) c b = (acts (open_call (eps y inner out) c) x g.good.four).counts ∙ ap used b.does

  refused-by : (m : Message) (c : ℕ) → Ready x m c → ((c' : ℕ) → Uses (gives (open_call m c) x) c' → ⊥)
      → let k = open_call m c in (gives k x ≡ alone 6 x (lent k)) ⊎ (gives k x ≡ alone 7 x (lent k))
  refused-by (five_gs y d k t inner out out2) c r n =
      let m = envelope y t c (bearer_no k) (direction_no d) inner in
      let p = place_of d k in
      let e = open-left x d k m out out2 (passes-5gs x g c y d k t inner out out2 r) in
      rw e (refused-alone holding open_values open'.Refused (opened_as x p (bearer_no k) (direction_no d) m out) (plain x p (bearer_no k) (direction_no d) m out)
      (open-answering x p (bearer_no k) (direction_no d) m out) x p out (λ n. refl) (found x p (bearer_no k) (direction_no d) m out)
      (λ c' u. n c' (subst (λ (o : Outcome Context). Uses o c') (sym e) u)))
  refused-by (eps y inner out) c r n =
      let m = eps_message y c inner in
      let e = eps-left x m out (passes-eps x g c y inner out r) in
      rw e (refused-alone holding eps_open_values eps'.Refused (eps_as x m out) _ (eps-answering x m out) x eps_place out (λ n. refl) (eps_found x m out)
      (λ c' u. n c' (subst (λ (o : Outcome Context). Uses o c') (sym e) u)))

open-place : (m : Message) (c : ℕ) → place_in (open_call m c) < 4
open-place (five_gs y d k t inner out out2) c = place-there d k
open-place (eps y inner out) c = omega arith

itself : (A : Type 0) → A ↔ A
itself A = ((λ a. a), λ a. a)

uplink : (d : Direction) → direction_no d ≡ 0 → d ≡ Uplink
uplink Uplink e = refl
uplink Downlink e = absurd (omega arith)

module _ (d : Direction) (k : Connection) where
  abbrev p : ℕ
  p = place_of d k

  -- a message made by a seal of a context with the keys of z
  record WasSealed (z : Context) (m : Sent Seal) : Type 0 where
    by : Context
    keys : SameKeys z.core by.core
    allowed : Allowed d k m.seal
    succeeds : Succeeds (gives (seal_call d k m.seal) by)
    count : m.count ≡ (gives (seal_call d k m.seal) by).values.count
    octets : m.octets ≡ written (gives (seal_call d k m.seal) by)

  sends-next : (s : Seal) (x : Context) → passing (seal_call d k s) x ≡ next x (place_in (seal_call d k s))
  sends-next (looked t inner out) x = refl
  sends-next (opaque t inner out) x = refl
  sends-next (initial w out) x = refl
  sends-next (eps_seal inner out) x = refl

  seal-succeeds : (s : Seal) (x : Context) → (gives (seal_call d k s) x).values.uses ≡ true → Succeeds (gives (seal_call d k s) x)
  unfolding use_next
  seal-succeeds (looked t inner out) x u = rw (gives-passed (seal5gs t d k inner out) x (uses-passed (seal5gs t d k inner out) x u)) refl
  seal-succeeds (opaque t inner out) x u = rw (gives-passed (seal_opaque t d k inner out) x (uses-passed (seal_opaque t d k inner out) x u)) refl
  seal-succeeds (initial w out) x u = rw (gives-passed (seal_initial k w out) x (uses-passed (seal_initial k w out) x u)) refl
  seal-succeeds (eps_seal inner out) x u = rw (gives-passed (seal_eps inner out) x (uses-passed (seal_eps inner out) x u)) refl

  sends : (z x : Context) (s : Seal) → Alike z x → Allowed d k s → Sends (link d k) (record_of p) Alike WasSealed z x s
  sends z x s g allowed =
      let call = seal_call d k s in
      let here = allowed.here in
      let four = g.guarded.good.four in
      let on : place_in call < 4 = subst (λ (q : ℕ). q < 4) (sym here) (place-there d k) in
      sends-by (link d k) (record_of p) Alike WasSealed z x s (does call x) (alike-after call z x g (on-record call on))
      (subst (λ (q : ℕ). record_of q (gives call x).context ≡ act (does call x) (record_of q x)) here (own-after call x four on))
      (acts call x four).counts
      (λ u. (
        subst (λ (q : ℕ). does call x ≡ uses forward (next_at x q)) here (uses-next call x g.guarded (sends-next s x) u),
        record { by = x; keys = g.keys; allowed = allowed; succeeds = seal-succeeds s x u; count = refl; octets = refl },
      ))

  module _ (z x : Context) (g : Alike z x) (r : Lent) where
    abbrev TakenBy : Seal → ℕ → List ℕ → Type 0
    TakenBy s c octets = TakesBy (link d k) (record_of p) Alike WasSealed z x (record { seal = s; count = c; octets = octets }) r

    abbrev finds_for : Seal → ℕ → List ℕ → Opening
    finds_for s c octets = finds_by (link d k) (record_of p) Alike WasSealed z x (record { seal = s; count = c; octets = octets })

    -- by what is known of the message in crate promises
    taken-by : (s : Seal) (c : ℕ) (m : Message) → Ready x m c → message_place m ≡ p
        → opens_by d k s (octets_for m c) r ≡ open_call m c
        → ◌≡◌ {A = ℕ → Bool} (λ c'. code_fits d k z.core s (octets_for m c) c') (λ c'. fits_as m c c')
        → (TakenAs (gives (open_call m c) x) c (inner_of m) (room_of m) ↔ AcceptedAs d k s c (opens_by d k s (octets_for m c) r) r x)
        → TakenBy s c (octets_for m c)
    taken-by s c m ready here same-call same_code whole =
        let b = goes x m c g.guarded ready in
        let o = finds messages x m c in
        let call = opens_by d k s (octets_for m c) r in
        let back = sym same-call in
        let q : o ≡ finds_for s c (octets_for m c) =
        λ i. opening 8 false (sym same_code i) x.core.size (record_at x (here i)) (c % 256) in
        record {
          count = b.count;
          own = ap (λ (f : ℕ → Bool). f c) same_code ∙ b.own;
          small = b.small refl;
          good = subst (λ (k : Call). Alike z (gives k x).context) back (alike-after (open_call m c) z x g (on-record (open_call m c) (open-place m c)));
          after =
              subst (λ (o : Opening). record_of p (gives call x).context ≡ act (act_of false o) (record_of p x)) q
              (subst (λ (n : ℕ). record_of n (gives call x).context ≡ act (act_of false o) (record_of n x)) here
              (subst (λ (k : Call). record_of (message_place m) (gives k x).context ≡ act (act_of false o) (record_of (message_place m) x)) back
              (after-by x g.guarded m c b)));
          answers =
              subst (λ (k : Call). used_by (gives k x).values ≡ used (act_of false (finds_for s c (octets_for m c)))) back
              (answers_by x g.guarded m c b ∙ ap (λ (o : Opening). used (act_of false o)) q);
          accepts = subst (λ (o : Opening). Takes o c ↔ AcceptedAs d k s c call r x) q (through b.taken whole);
          refuses = λ n.
              subst (λ (k : Call). NotTaken k x) back
              (not_taken (open_call m c) x
              (refused-by x g.guarded m c ready (λ c' u. n c' (subst (λ (o : Opening). Takes o c') q ((b.names c').1 u)))));
        }

    ready-5gs : (t : ℕ) (inner : List ℕ) (c : ℕ) → (1 ≤ t) × (t ≤ 4) → c < exhausted → 1 ≤ length inner → length inner ≤ limit
        → (length inner ≤ length r.first) × (t ≡ 1 → d ≡ Uplink → length inner ≤ length r.second)
        → Ready x (five_gs z.core d k t inner r.first r.second) c
    ready-5gs t inner c type count some low room =
        record { same = g.keys; type = type; count = count; some = some; low = low; room = room.0; room2 = λ i up. room.1 i (uplink d up) }

    abbrev sealed_by : Seal → Context → Outcome Context
    sealed_by s by = gives (seal_call d k s) by

    taken-sealed : (s : Seal) (by : Context) → SameKeys z.core by.core → Allowed d k s → Succeeds (sealed_by s by) → Room d k s r
        → TakenBy s (sealed_by s by).values.count (written (sealed_by s by))
    unfolding initial_envelope
    taken-sealed (looked t inner out) by keys allowed h room =
        let o = gives (seal5gs t d k inner out) by in
        let c = o.values.count in
        let w = (writes by).seal t d k inner out h in
        let a = ((accepts by).seal t d k inner out).0 h in
        let e = w.1 ∙ envelope-same z.core by.core c (bearer_no k) (direction_no d) (back-keys z.core by.core keys) t inner in
        subst (TakenBy (looked t inner out) c) (sym e)
        (taken-by (looked t inner out) c (five_gs z.core d k t inner r.first r.second)
        (ready-5gs t inner c (a.1, a.2) (subst (λ (n : ℕ). n < exhausted) (sym w.0.1) a.0.count) allowed.some a.0.short room)
        refl refl refl (itself _))
    taken-sealed (opaque t inner out) by keys allowed h room =
        let o = gives (seal_opaque t d k inner out) by in
        let c = o.values.count in
        let w = (writes by).opaque t d k inner out h in
        let a = ((accepts by).opaque t d k inner out).0 h in
        let e = w.1 ∙ envelope-same z.core by.core c (bearer_no k) (direction_no d) (back-keys z.core by.core keys) t inner in
        subst (TakenBy (opaque t inner out) c) (sym e)
        (taken-by (opaque t inner out) c (five_gs z.core d k t inner r.first r.second)
        (ready-5gs t inner c (a.1, a.2) (subst (λ (n : ℕ). n < exhausted) (sym w.0.1) a.0.count) allowed.some a.0.short room)
        refl refl refl (itself _))
    taken-sealed (initial w out) by keys allowed h room =
        let o = gives (seal_initial k w out) by in
        let c = o.values.count in
        let v = (writes by).initial k w out h in
        let a = ((accepts by).initial k w out).0 h in
        let whole = initial-whole by (place_of Uplink k) w (length out) (opened-passed (seal_initial k w out) by (inl h)) in
        let gone = outgoing by.core c (bearer_no k) w in
        let long = outgoing-length by.core c (bearer_no k) w whole in
        let some = some-octets w whole in
        let e : written o ≡ envelope z.core 1 c (bearer_no k) 0 gone =
        v.1 ∙ envelope-same z.core by.core c (bearer_no k) 0 (back-keys z.core by.core keys) 1 gone in
        let there = trans-keys by.core z.core x.core (back-keys z.core by.core keys) g.keys in
        let trip =
        subst
        (λ (m : List ℕ).
        let call = open5gs Uplink k m r.first r.second in
        let o = gives call x in
        Uses o c → Succeeds o × (o.values.header ≡ 1) × TakenAs o c gone r.first × HandsWhole w o (second call x) r.first r.second)
        e ((returns by x there).initial k w out r.first r.second h) in
        subst (TakenBy (initial w out) c) (sym e)
        (taken-by (initial w out) c (five_gs z.core Uplink k 1 gone r.first r.second)
        record {
          same = g.keys;
          type = (omega arith, omega arith);
          count = subst (λ (n : ℕ). n < exhausted) (sym v.0.1) a.0.count;
          some = omega (arith, some, long);
          low = omega (arith, a.0.short, long);
          room = omega (arith, room.0, long);
          room2 = λ i up. omega (arith, room.1, long);
        }
        allowed.here refl refl
        ((λ t. let q = trip (t.uses, t.count) in (q.0, (t.uses, t.count), q.3)), λ q. (trip q.1).2))
    taken-sealed (eps_seal inner out) by keys allowed h room =
        let o = gives (seal_eps inner out) by in
        let c = o.values.count in
        let w = (writes by).eps inner out h in
        let a = ((accepts by).eps inner out).0 h in
        let e = w.1 ∙ eps-same z.core by.core c (back-keys z.core by.core keys) inner in
        subst (TakenBy (eps_seal inner out) c) (sym e)
        (taken-by (eps_seal inner out) c (eps z.core inner r.first)
        record {
          same = g.keys;
          type = tt;
          count = subst (λ (n : ℕ). n < exhausted) (sym w.0.1) a.0.count;
          some = allowed.some;
          low = a.0.short;
          room = room;
          room2 = tt;
        }
        allowed.here refl refl (itself _))

  takes : (z x : Context) (m : Sent Seal) (r : Lent) → Alike z x → WasSealed z m → Room d k m.seal r
      → TakesBy (link d k) (record_of p) Alike WasSealed z x m r
  takes z x m r g w room =
      subst (λ (n : Sent Seal). TakesBy (link d k) (record_of p) Alike WasSealed z x n r)
      (λ i. record { seal = m.seal; count = sym w.count i; octets = sym w.octets i })
      (taken-sealed z x g r m.seal w.by w.keys w.allowed w.succeeds room)

  -- the receiver with its window set
  receiver : (z x : Context) (w : ℕ) → Fresh x → SameKeys z.core x.core → Succeeds (gives (set_window w) x)
      → let y = (gives (set_window w) x).context in Alike z y × (next_at y p ≡ 0) × (y.core.size ≡ w)
  unfolding resize_of
  receiver z x w fresh same set =
      let s = started x fresh in
      let good = s.beginning.good in
      let resizes : does (set_window w) x ≡ resize w = rw (opened-passed (set_window w) x (inl set)) refl in
      let e : record_of p (gives (set_window w) x).context ≡ act (resize w) (record_of p x) =
      record-after (set_window w) x good.four p (place-there d k) ∙ ap (λ (a : Act). act (seen p 4 a) (record_of p x)) resizes in (
        alike-after (set_window w) z x record { guarded = record { good = good; ok = s.beginning.ok }; keys = same }
            (λ i c ik ck q. let z : ◌≡◌ {A = ℕ} 0 1 = cc in omega arith),
        ap (λ (s : State). s.at.next) e ∙ s.zeros p (place-there d k),
        ap (λ (s : State). s.size) e,
      )

  shown : Shown (link d k) (record_of p) Alike WasSealed
  shown =
      record {
        sender = λ z fresh.
            let s = (started z fresh).beginning in
            record { guarded = record { good = s.good; ok = s.ok }; keys = same_keys z.core };
        receiver = receiver;
        sends = sends;
        takes = takes;
      }

pub five-gs-ends : FiveGsEnds
five-gs-ends d k = ends-meet Context (link d k) (record_of (place_of d k)) Alike (WasSealed d k) (shown d k)
