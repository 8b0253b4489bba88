-- The two ends of one record of an EPS context (request 6), that of direction d: messages of header types 1 to 4, the call that matches them, and what accepted and
-- refused mean of its answer. "Item 6's SERVICE REQUEST carries none and is left out." What is said of them: crate promise, specs/TwoEnds.
use Rattle.std.specs.Prelude.{ℕ, ◌≤◌, ◌≡◌, Bool, ◌⊎◌, List, length}
use Rattle.nas_core.specs.declared.Core.{Core}
use Rattle.nas_core.specs.Leaves.{refusal}
use Rattle.nas_core.specs.Verify.{fits}
use Rattle.nas_eps.specs.declared.Context.{Context}
use Rattle.nas_core.specs.declared.Direction.{Direction}
use Rattle.nas_eps.specs.Places.{place_of}
use Rattle.nas_eps.specs.Octets.{bearer}
use Rattle.promise.specs.Outcomes.{SameKeys, TakenAs}
use Rattle.promise.specs.TwoEnds.{Link, TwoEnds}
use Rattle.promises_eps.specs.Calls.{Call, set_window, seal_message, open_message, gives, lent}
use Rattle.promises_eps.specs.Demand3.{Fresh}

-- A seal call: header type, inner octets, and the lent output.
pub record Seal : Type 0 where
  pub type : ℕ
  pub inner : List ℕ
  pub out : List ℕ

-- "non-empty messages"
abbrev pub Allowed : Seal → Type 0
Allowed s = 1 ≤ length s.inner

-- "with room", in the one output that an open call is lent
abbrev pub Room : Seal → List ℕ → Type 0
Room s out = length s.inner ≤ length out

-- "its COUNT is used and its octets handed over": c is its COUNT, call the matching one. There is no 8.
abbrev pub AcceptedAs : Seal → ℕ → Call → Context → Type 0
AcceptedAs s c call x = TakenAs (gives call x) c s.inner (lent call)

-- 6 or 7 and nothing else, and context and output are as before
pub record NotTaken (call : Call) (x : Context) : Type 0 where
  pub values : ((gives call x).values ≡ refusal 6) ⊎ ((gives call x).values ≡ refusal 7)
  pub context : (gives call x).context ≡ x
  pub output : (gives call x).output ≡ lent call

module _ (d : Direction) where
  abbrev pub seal_call : Seal → Call
  seal_call s = seal_message s.type d s.inner s.out

  -- the code of the octets m fits COUNT c
  abbrev pub code_fits : Core → List ℕ → ℕ → Bool
  code_fits x m c = fits x c bearer (place_of d) 1 m

  -- "the matching call" is `open_message d`, given the octets
  abbrev pub eps : Link Context
  eps =
      record {
        Fresh = Fresh;
        SameKeys = λ z x. SameKeys z.core x.core;
        window = λ w x. gives (set_window w) x;
        Seal = Seal;
        seal = λ s z. gives (seal_call s) z;
        Allowed = Allowed;
        fits = λ z m c. code_fits z.core m.octets c;
        Lent = List ℕ;
        Room = λ m out. Room m.seal out;
        opens = λ m out x. gives (open_message d m.octets out) x;
        Accepted = λ m out x. AcceptedAs m.seal m.count (open_message d m.octets out) x;
        Refused = λ m out x. NotTaken (open_message d m.octets out) x;
      }

-- of either record
abbrev pub EpsEnds : Type 0
EpsEnds = (d : Direction) → TwoEnds (eps d)
