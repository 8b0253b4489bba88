-- The two ends of one record of an EPS context meet: an instance of crate promise.
use Prim.Native.Nat.{ℕ, ◌<◌}
use mathlib.Core.Path.{◌≡◌, refl, sym, ap, ◌∙◌, subst}
use mathlib.Core.Bool.{true}
use mathlib.Core.Logic.{◌⊎◌, inl, inr}
use mathlib.Core.List.{List}
use native.Mathlib.Omega.{arith}
use lib.ListN.{length}
use Rattle.count.specs.Rule.{exhausted, resize_of}
use Rattle.count.specs.Run.{State, Act, uses, resize, forward, act, used}
use Rattle.count.specs.Machine.{seen}
use Rattle.nas_core.specs.Keyed.{wraps}
use Rattle.nas_eps.specs.declared.Context.{Context}
use Rattle.nas_core.specs.declared.Direction.{Direction}
use Rattle.nas_eps.specs.OpenAnswer as open'
use Rattle.nas_eps.specs.Places.{place_of, next_at}
use Rattle.nas_eps.specs.Leaves.{use_next, open_values}
use Rattle.nas_eps.specs.Open.{open_refusal}
use Rattle.nas_eps.proofs.Lengths.{message-length}
use Rattle.promise.specs.Outcomes.{Outcome, SameKeys, Succeeds, Uses, written}
use Rattle.promise.specs.TwoEnds.{Sent}
use Rattle.promise.specs.Ends.{Sends, TakesBy, Shown}
use Rattle.promise.proofs.Acts.{same_keys}
use Rattle.promise.proofs.Answers.{refused-alone}
use Rattle.promise.proofs.Ends.{ends-meet}
use Rattle.promises_eps.specs.Calls.{Call, set_window, reselect, open_message, gives, place_in}
use Rattle.promises_eps.specs.Words.{record_of}
use Rattle.promises_eps.specs.Demand3.{Fresh}
use Rattle.promises_eps.proofs.Shapes.{holding, Reselects, next, passing, does, acts, found, plain, opened_as}
use Rattle.promises_eps.proofs.Passing.{gives-passed, uses-passed, succeeds-passed}
use Rattle.promises_eps.proofs.Soundness.{trans-keys, record-after, own-after, stays_two}
use Rattle.promises_eps.proofs.Faults.{no-fault, stays-faultless}
use Rattle.promises_eps.proofs.Taking.{answering, left_by, message-type, message-low, message-same, message-passes}
use Rattle.promises_eps.proofs.Messages.{Guarded, Message, octets_of, Ready, goes}
use Rattle.promises_eps.proofs.Demand2.{accepts, writes}
use Rattle.promises_eps.proofs.Demand3.{place-there, started}
use Rattle.two_ends.specs.Eps.{Seal, Allowed, Room, NotTaken, seal_call, eps as link, EpsEnds}
use Rattle.two_ends.proofs.Shared.{sends-by, left_alone}

-- contexts with the keys of z, with non-null integrity and no fault
record Alike (z x : Context) : Type 0 where
  guarded : Guarded x
  keys : SameKeys z.core x.core

-- every call but reselection leaves a context so
alike-after : (k : Call) (z x : Context) → Alike z x → ((i c : ℕ) (ik ck : List ℕ) → k ≡ reselect i c ik ck → ⊥) → Alike z (gives k x).context
unfolding wraps
alike-after k z x g never =
    let two = g.guarded.good.two in
    let keys = same (acts k x two).keys-after in
    record {
      guarded =
          record {
            good = record { two = stays_two k x two; guarded = rw (← keys.integrity) g.guarded.good.guarded };
            ok = stays-faultless k x two g.guarded.ok;
          };
      keys = trans-keys z.core x.core (gives k x).context.core g.keys keys;
    }
  where
    same : SameKeys x.core (gives k x).context.core ⊎ Reselects k x → SameKeys x.core (gives k x).context.core
    same (inl s) = s
    same (inr r) = absurd (never r.integrity r.ciphering r.integrity_key r.ciphering_key r.is)

on-record : (k : Call) → place_in k < 2 → (i c : ℕ) (ik ck : List ℕ) → k ≡ reselect i c ik ck → ⊥
on-record k h i c ik ck e = let q : place_in k ≡ 2 = ap place_in e in omega arith

uses-next : (k : Call) (x : Context) → Guarded x → passing k x ≡ next x (place_in k) → (gives k x).values.uses ≡ true
    → does k x ≡ uses forward (next_at x (place_in k))
uses-next k x g sends u = rw (uses-passed k x u, sends, g.good.guarded) refl

-- a message that nothing but the COUNT can refuse is taken, or refused alone
module _ (x : Context) (g : Guarded x) (n : Message) (c : ℕ) (r : Ready x n c) where
  abbrev m : List ℕ
  m = octets_of n c

  abbrev at : ℕ
  at = place_of n.way

  abbrev call : Call
  call = open_message n.way m n.out

  passes : open_refusal x at m (length n.out) ≡ 0
  passes =
      message-passes x (no-fault x g.ok) at m (length n.inner) (length n.out) n.type r.low r.room
      (message-length n.keys n.type c at n.inner) r.some (message-low n.keys n.type c at n.inner)
      (message-type n.keys n.type c at n.inner r.from r.to) r.from r.to

  refused-by : ((c' : ℕ) → Uses (gives call x) c' → ⊥) → NotTaken call x
  refused-by none =
      let e : gives call x ≡ left_by x at m n.out (found x at m) = gives-passed call x passes in
      let q = refused-alone holding open_values open'.Refused (opened_as x at m) (plain x at m) (answering x at m) x at n.out (λ n. refl) (found x at m)
      (λ c' u. none c' (subst (λ (o : Outcome Context). Uses o c') (sym e) u)) in
      let a = left_alone (gives call x) x n.out (rw e q) in
      record { values = a.0; context = a.1; output = a.2 }

module _ (d : Direction) where
  abbrev p : ℕ
  p = place_of d

  -- a message made by a seal of a context with the keys of z
  record WasSealed (z : Context) (m : Sent Seal) : Type 0 where
    by : Context
    keys : SameKeys z.core by.core
    allowed : Allowed m.seal
    succeeds : Succeeds (gives (seal_call d m.seal) by)
    count : m.count ≡ (gives (seal_call d m.seal) by).values.count
    octets : m.octets ≡ written (gives (seal_call d m.seal) by)

  seal-succeeds : (s : Seal) (x : Context) → (gives (seal_call d s) x).values.uses ≡ true → Succeeds (gives (seal_call d s) x)
  unfolding use_next
  seal-succeeds s x u = rw (gives-passed (seal_call d s) x (uses-passed (seal_call d s) x u)) refl

  sends : (z x : Context) (s : Seal) → Alike z x → Allowed s → Sends (link d) (record_of p) Alike WasSealed z x s
  sends z x s g allowed =
      let call = seal_call d s in
      let two = g.guarded.good.two in
      sends-by (link d) (record_of p) Alike WasSealed z x s (does call x) (alike-after call z x g (on-record call (place-there d)))
      (own-after call x two (place-there d)) (acts call x two).counts
      (λ u. (
        uses-next call x g.guarded refl u,
        record { by = x; keys = g.keys; allowed = allowed; succeeds = seal-succeeds s x u; count = refl; octets = refl },
      ))

  module _ (z x : Context) (g : Alike z x) (out : List ℕ) where
    abbrev TakenBy : Seal → ℕ → List ℕ → Type 0
    TakenBy s c octets = TakesBy (link d) (record_of p) Alike WasSealed z x (record { seal = s; count = c; octets = octets }) out

    abbrev as-message : Seal → Message
    as-message s = record { keys = z.core; way = d; type = s.type; inner = s.inner; out = out }

    -- by what is known of the message in crate promises_eps
    taken-by : (s : Seal) (c : ℕ) → Ready x (as-message s) c → TakenBy s c (octets_of (as-message s) c)
    taken-by s c ready =
        let n = as-message s in
        let b = goes x n c g.guarded ready in
        let two = g.guarded.good.two in
        let call = open_message d (octets_of n c) out in
        record {
          count = b.count;
          own = b.own;
          small = b.small refl;
          good = alike-after call z x g (on-record call (place-there d));
          after = own-after call x two (place-there d) ∙ ap (λ (a : Act). act a (record_of p x)) b.does;
          answers = (acts call x two).counts ∙ ap used b.does;
          accepts = b.taken;
          refuses = λ none. refused-by x g.guarded n c ready (λ c' u. none c' ((b.names c').1 u));
        }

    taken-sealed : (s : Seal) (by : Context) → SameKeys z.core by.core → Allowed s → Succeeds (gives (seal_call d s) by) → Room s out
        → let o = gives (seal_call d s) by in TakenBy s o.values.count (written o)
    taken-sealed s by keys allowed h room =
        let c = (gives (seal_call d s) by).values.count in
        let w = (writes by).seal s.type d s.inner s.out h in
        let a = ((accepts by).seal s.type d s.inner s.out).0 h in
        let e = w.1 ∙ sym (message-same by.core z.core keys s.type c p s.inner) in
        subst (TakenBy s c) (sym e)
        (taken-by s c
        record {
          same = g.keys;
          from = a.1;
          to = a.2;
          count = subst (λ (n : ℕ). n < exhausted) (sym w.0.1) a.5;
          some = allowed;
          low = a.3;
          room = room;
        })

  takes : (z x : Context) (m : Sent Seal) (out : List ℕ) → Alike z x → WasSealed z m → Room m.seal out
      → TakesBy (link d) (record_of p) Alike WasSealed z x m out
  takes z x m out g w room =
      subst (λ (n : Sent Seal). TakesBy (link d) (record_of p) Alike WasSealed z x n out)
      (λ i. record { seal = m.seal; count = sym w.count i; octets = sym w.octets i })
      (taken-sealed z x g out m.seal w.by w.keys w.allowed w.succeeds room)

  -- the receiver with its window set
  receiver : (z x : Context) (w : ℕ) → Fresh x → SameKeys z.core x.core → Succeeds (gives (set_window w) x)
      → let y = (gives (set_window w) x).context in Alike z y × (next_at y p ≡ 0) × (y.core.size ≡ w)
  unfolding resize_of
  receiver z x w fresh same set =
      let s = started x fresh in
      let good = s.beginning.good in
      let resizes : does (set_window w) x ≡ resize w = rw (succeeds-passed (set_window w) x set) refl in
      let e : record_of p (gives (set_window w) x).context ≡ act (resize w) (record_of p x) =
      record-after (set_window w) x good.two p (place-there d) ∙ ap (λ (a : Act). act (seen p 2 a) (record_of p x)) resizes in (
        alike-after (set_window w) z x record { guarded = record { good = good; ok = s.beginning.ok }; keys = same }
            (λ i c ik ck q. let z : ◌≡◌ {A = ℕ} 0 1 = cc in omega arith),
        ap (λ (s : State). s.at.next) e ∙ s.zeros p (place-there d),
        ap (λ (s : State). s.size) e,
      )

  shown : Shown (link d) (record_of p) Alike WasSealed
  shown =
      record {
        sender = λ z fresh.
            let s = (started z fresh).beginning in
            record { guarded = record { good = s.good; ok = s.ok }; keys = same_keys z.core };
        receiver = receiver;
        sends = sends;
        takes = takes;
      }

pub eps-ends : EpsEnds
eps-ends d = ends-meet Context (link d) (record_of (place_of d)) Alike (WasSealed d) (shown d)
