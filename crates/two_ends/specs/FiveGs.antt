-- The two ends of one record of a 5GS context, that of direction d and connection k: which calls the sender makes, which one matches each, and what accepted and
-- refused mean of its answer. What is said of them: crate promise, specs/TwoEnds.
use Rattle.std.specs.Prelude.{ℕ, ◌≤◌, ◌≡◌, Bool, ◌⊎◌, List, length}
use Rattle.initial.specs.Outer.{outer_length}
use Rattle.nas_core.specs.declared.Core.{Core}
use Rattle.nas_core.specs.Leaves.{refusal}
use Rattle.nas_core.specs.Verify.{fits}
use Rattle.nas_5gs.specs.declared.Context.{Context}
use Rattle.nas_core.specs.declared.Direction.{Direction}
use Rattle.nas_core.specs.declared.Direction.TheVariants.{Uplink}
use Rattle.nas_5gs.specs.declared.Connection.{Connection}
use Rattle.nas_5gs.specs.Places.{direction_no, bearer_no, place_of}
use Rattle.nas_5gs.specs.Eps.{eps_bearer, eps_direction}
use Rattle.promise.specs.Outcomes.{SameKeys, Succeeds, Uses, TakenAs}
use Rattle.promise.specs.TwoEnds.{Link, TwoEnds}
use Rattle.promises.specs.Calls.{Call, set_window, seal5gs, seal_opaque, seal_initial, open5gs, seal_eps, open_eps, gives, second, lent, lent_second, place_in}
use Rattle.promises.specs.Demand2.{HandsWhole}
use Rattle.promises.specs.Demand3.{Fresh}

-- The seal calls, mixed as one likes; the lent output stands last.
pub data Seal : Type 0 where
  -- header type, inner octets: with the look at the inner message, and without it
  looked opaque : ℕ → List ℕ → List ℕ → Seal
  -- the whole initial message; only uplink
  initial : List ℕ → List ℕ → Seal
  -- the plain EPS message; only uplink 3GPP
  eps : List ℕ → List ℕ → Seal

-- what is sealed
abbrev pub inside : Seal → List ℕ
inside (looked t inner out) = inner
inside (opaque t inner out) = inner
inside (initial w out) = w
inside (eps inner out) = inner

-- the outputs that an open call is lent; the EPS one takes the first alone
pub record Lent : Type 0 where
  pub first : List ℕ
  pub second : List ℕ

-- 6 or 7 and nothing else, and context and outputs are as before
pub record NotTaken (call : Call) (x : Context) : Type 0 where
  pub values : ((gives call x).values ≡ refusal 6) ⊎ ((gives call x).values ≡ refusal 7)
  pub context : (gives call x).context ≡ x
  pub output : (gives call x).output ≡ lent call
  pub output-second : second call x ≡ lent_second call

module _ (d : Direction) (k : Connection) where
  abbrev pub seal_call : Seal → Call
  seal_call (looked t inner out) = seal5gs t d k inner out
  seal_call (opaque t inner out) = seal_opaque t d k inner out
  seal_call (initial w out) = seal_initial k w out
  seal_call (eps inner out) = seal_eps inner out

  -- "non-empty messages in one record"
  pub record Allowed (s : Seal) : Type 0 where
    pub here : place_in (seal_call s) ≡ place_of d k
    pub some : 1 ≤ length (inside s)

  -- "the matching call", given the octets m
  abbrev pub open_call : Seal → List ℕ → Lent → Call
  open_call (looked t inner out) m r = open5gs d k m r.first r.second
  open_call (opaque t inner out) m r = open5gs d k m r.first r.second
  open_call (initial w out) m r = open5gs Uplink k m r.first r.second
  open_call (eps inner out) m r = open_eps m r.first

  -- the code of the octets m fits COUNT c
  abbrev pub code_fits : Core → Seal → List ℕ → ℕ → Bool
  code_fits x (looked t inner out) m c = fits x c (bearer_no k) (direction_no d) 2 m
  code_fits x (opaque t inner out) m c = fits x c (bearer_no k) (direction_no d) 2 m
  code_fits x (initial w out) m c = fits x c (bearer_no k) (direction_no Uplink) 2 m
  code_fits x (eps inner out) m c = fits x c eps_bearer eps_direction 1 m

  -- "with room": under header type 1, uplink, in both outputs
  abbrev pub Room : Seal → Lent → Type 0
  Room (looked t inner out) r = (length inner ≤ length r.first) × (t ≡ 1 → d ≡ Uplink → length inner ≤ length r.second)
  Room (opaque t inner out) r = (length inner ≤ length r.first) × (t ≡ 1 → d ≡ Uplink → length inner ≤ length r.second)
  Room (initial w out) r = (outer_length w ≤ length r.first) × (outer_length w ≤ length r.second)
  Room (eps inner out) r = length inner ≤ length r.first

  -- "its COUNT is used and its octets handed over, refusal 8 included": c is its COUNT, call the matching one. Of an initial message the whole is handed over, in
  -- the second output where something of it was hidden, and there is no 8.
  abbrev pub AcceptedAs : Seal → ℕ → Call → Lent → Context → Type 0
  AcceptedAs (looked t inner out) c call r x = TakenAs (gives call x) c inner r.first
  AcceptedAs (opaque t inner out) c call r x = TakenAs (gives call x) c inner r.first
  AcceptedAs (initial w out) c call r x =
      Succeeds (gives call x) × Uses (gives call x) c × HandsWhole w (gives call x) (second call x) r.first r.second
  AcceptedAs (eps inner out) c call r x = TakenAs (gives call x) c inner r.first

  abbrev pub five_gs : Link Context
  five_gs =
      record {
        Fresh = Fresh;
        SameKeys = λ z x. SameKeys z.core x.core;
        window = λ w x. gives (set_window w) x;
        Seal = Seal;
        seal = λ s z. gives (seal_call s) z;
        Allowed = Allowed;
        fits = λ z m c. code_fits z.core m.seal m.octets c;
        Lent = Lent;
        Room = λ m r. Room m.seal r;
        opens = λ m r x. gives (open_call m.seal m.octets r) x;
        Accepted = λ m r x. AcceptedAs m.seal m.count (open_call m.seal m.octets r) r x;
        Refused = λ m r x. NotTaken (open_call m.seal m.octets r) x;
      }

-- of every record
abbrev pub FiveGsEnds : Type 0
FiveGsEnds = (d : Direction) (k : Connection) → TwoEnds (five_gs d k)
