-- What holds of `open_across` (crate handover) among all other calls of the 5GS context. A message that was sealed on one connection may arrive on the other, as
-- after a handover between accesses; it is taken on the connection that sealed it, when demand 3 says so of that one, but for the exception that is named here.
use Rattle.std.specs.Prelude.{ℕ, ◌≤◌, ◌<◌, ◌≡◌, true, cond, ◌⊎◌, ◌↔◌, List, [], ◌∷◌, ◌++◌, length, get_or, eqb, Some}
use Rattle.count.specs.Rule.{exhausted, late_of, forward_of}
use Rattle.count.specs.Run.{NoneTwice}
use Rattle.nas_core.specs.declared.Core.{Core}
use Rattle.nas_core.specs.Keyed.{wraps}
use Rattle.nas_core.specs.Refusals.{limit}
use Rattle.nas_core.specs.Verify.{fits}
use Rattle.nas_5gs.specs.declared.Context.{Context}
use Rattle.nas_core.specs.declared.Direction.{Direction}
use Rattle.nas_core.specs.declared.Direction.TheVariants.{Uplink}
use Rattle.nas_5gs.specs.declared.Connection.{Connection}
use Rattle.nas_5gs.specs.Places.{direction_no, bearer_no, place_of, record_at}
use Rattle.nas_5gs.specs.Leaves.{open_values}
use Rattle.nas_5gs.specs.Envelope.{envelope}
use Rattle.nas_5gs.specs.Open.{open_of}
use Rattle.handover.specs.Across.{LeavesAcross, leaves_across, on, across_of}
use Rattle.promises.specs.Words.{SameKeys, TakenAs}
use Rattle.promises.specs.Calls.{Call, open5gs, Outcome, used_by, gives, second, place_in, context_after, counts_used}
use Rattle.promises.specs.Demand3.{Begins, NeverToNull, Due}
use Rattle.promises.specs.Isolation.{Isolated}

-- a call of the context, or `open_across`: direction, the connection that the message arrived on, the message and both lent outputs
pub data AnyCall : Type 0 where
  own : Call → AnyCall
  across : Direction → Connection → List ℕ → List ℕ → List ℕ → AnyCall

-- what `open_across` leaves, in the promises' words
abbrev pub outcome_of : LeavesAcross → Outcome
outcome_of (leaves_across j a x out out2) = record { values = open_values a; context = x; output = out }

abbrev pub connection_of : LeavesAcross → Connection
connection_of (leaves_across j a x out out2) = j

abbrev pub beside_of : LeavesAcross → List ℕ
beside_of (leaves_across j a x out out2) = out2

abbrev pub any_gives : AnyCall → Context → Outcome
any_gives (own k) x = gives k x
any_gives (across d k m out out2) x = outcome_of (across_of x d k m out out2)

-- the call of the context that it is: `open_across` is the open call of the connection that it answers
abbrev pub as_call : AnyCall → Context → Call
as_call (own k) x = k
as_call (across d k m out out2) x = open5gs d (connection_of (across_of x d k m out out2)) m out out2

-- the context after such calls, the last one first; the calls that they are; and the COUNTs that their answers say were used on the record at p
abbrev pub kept_after : Context → List AnyCall → Context
kept_after x [] = x
kept_after x (s ∷ ss) = (any_gives s (kept_after x ss)).context

abbrev pub as_calls : Context → List AnyCall → List Call
as_calls x [] = []
as_calls x (s ∷ ss) = as_call s (kept_after x ss) ∷ as_calls x ss

abbrev pub used_on : ℕ → Context → List AnyCall → List ℕ
used_on p x [] = []
used_on p x (s ∷ ss) =
    cond (eqb p (place_in (as_call s (kept_after x ss)))) (used_by (any_gives s (kept_after x ss)).values) [] ++ used_on p x ss

-- Of one call: it does what the open call of the connection that it answers does. A refusal with 6 or 7 may have the other of the two numbers there.
pub record AsOpen (x : Context) (d : Direction) (m out out2 : List ℕ) (L : LeavesAcross) : Type 0 where
  pub context : (outcome_of L).context ≡ (gives (open5gs d (connection_of L) m out out2) x).context
  pub used : used_by (outcome_of L).values ≡ used_by (gives (open5gs d (connection_of L) m out out2) x).values
  pub output : (outcome_of L).output ≡ (gives (open5gs d (connection_of L) m out out2) x).output
  pub output-second : beside_of L ≡ second (open5gs d (connection_of L) m out out2) x
  pub values : ((outcome_of L).values.number ≡ 6 → ⊥) → ((outcome_of L).values.number ≡ 7 → ⊥)
      → (outcome_of L).values ≡ (gives (open5gs d (connection_of L) m out out2) x).values

-- a candidate of the record at p for last octet s: the late one, which is tried first, or the forward one
abbrev pub Tried : Context → ℕ → ℕ → ℕ → Type 0
Tried x p s c =
    (late_of 8 x.core.size (record_at x p) s ≡ Some c) ⊎ (forward_of 8 (wraps x.core) (record_at x p) s ≡ Some c)

-- the message's code fits no candidate of the connection k
abbrev pub FitsNone : Context → Direction → Connection → List ℕ → Type 0
FitsNone x d k m = (c : ℕ) → Tried x (place_of d k) (get_or m 6 0) c → fits x.core c (bearer_no k) (direction_no d) 2 m ≡ true → ⊥

-- Of a message sealed on connection a for COUNT c that arrives on connection k, after such calls.
pub record Across (x : Context) (ss : List AnyCall) : Type 0 where
  -- any mixture of calls is the calls that it is
  pub context : kept_after x ss ≡ context_after gives x (as_calls x ss)
  pub counts : (p : ℕ) → used_on p x ss ≡ counts_used gives p x (as_calls x ss)
  -- "No COUNT of either record is used twice"
  pub once : (d : Direction) (k : Connection) → NoneTwice (used_on (place_of d k) x ss)
  -- it uses c on a and hands over its octets exactly when demand 3 says that it is due on a, and it arrived on a or its code fits no candidate of the
  -- connection that it arrived on, which are tried before. So of a message that arrives on a nothing changes against `open`
  pub opens : (d : Direction) (a k : Connection) (y : Core) (t c : ℕ) (inner out out2 : List ℕ)
      → let m = envelope y t c (bearer_no a) (direction_no d) inner in
      let now = kept_after x ss in
      let L = across_of now d k m out out2 in
      SameKeys y now.core → 1 ≤ t → t ≤ 4 → c < exhausted → 1 ≤ length inner → length inner ≤ limit → length inner ≤ length out
      → (t ≡ 1 → d ≡ Uplink → length inner ≤ length out2)
      → ((connection_of L ≡ a) × TakenAs (outcome_of L) c inner out)
      ↔ (Due gives (place_of d a) x (as_calls x ss) (λ c'. fits now.core c' (bearer_no a) (direction_no d) 2 m ≡ true) c × ((k ≡ a) ⊎ FitsNone now d k m))

-- calls that do not work on the record at p: `open_across` may work on either connection's record of its direction
abbrev pub NotOn : ℕ → AnyCall → Type 0
NotOn p (own k) = (place_in k < 4) × (p ≡ place_in k → ⊥)
NotOn p (across d k m out out2) = (j : Connection) → p ≡ place_of d j → ⊥

abbrev pub NoneOn : ℕ → List AnyCall → Type 0
NoneOn p [] = Unit {0}
NoneOn p (s ∷ ss) = NotOn p s × NoneOn p ss

pub record Handover : Type 0 where
  pub as-open : (x : Context) (d : Direction) (k : Connection) (m out out2 : List ℕ) → AsOpen x d m out out2 (across_of x d k m out out2)
  -- "A refusal changes nothing", 8 apart
  pub kept : (x : Context) (d : Direction) (k : Connection) (m out out2 : List ℕ)
      → let L = across_of x d k m out out2 in
      ((outcome_of L).values.number ≡ 0 → ⊥) → ((outcome_of L).values.number ≡ 8 → ⊥)
      → ((outcome_of L).context ≡ x) × ((outcome_of L).output ≡ out) × (beside_of L ≡ out2)
  -- "Under null integrity it is `open`"
  pub null : (x : Context) (d : Direction) (k : Connection) (m out out2 : List ℕ) → wraps x.core ≡ true
      → across_of x d k m out out2 ≡ on k (open_of x d k m out out2)
  -- demand 3, from where it begins
  pub demand3 : (x : Context) → Begins x → (ss : List AnyCall) → NeverToNull gives x (as_calls x ss) → Across x ss
  -- isolation
  pub isolation : (x : Context) → length x.records ≡ 4 → (p : ℕ) → p < 4 → (ss : List AnyCall) → NoneOn p ss
      → (record_at (kept_after x ss) p ≡ record_at x p) × Isolated x p (as_calls x ss)
