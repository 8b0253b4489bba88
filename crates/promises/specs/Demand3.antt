-- Demand 3: "From a fresh context with non-null integrity, over any calls but restore and reselection: on each direction and connection no COUNT is used
-- twice. A non-empty message sealed for COUNT c on that record with the same keys and codes, given to the matching open call within limit and room,
-- uses c and hands over its octets exactly when c is among the 256 COUNTs from the next one on, or was passed over, never used, and has lain inside the
-- window ever since. One exception: a forward c whose code also fits a still open late COUNT with the same last octet is taken as that one."
-- Request 10: it begins at a restored context too. Request 4: "Demand 3 then also holds across reselections between non-null codes, and anew from each reselection away from null." So it is said of any calls
-- but restore and reselection to null, and "the same keys and codes" are those that the context has when the message comes.
use Rattle.std.specs.Prelude.{ℕ, ◌+◌, ◌%◌, ◌≤◌, ◌<◌, ◌≡◌, true, ◌⊎◌, ◌↔◌, List, [], ◌∷◌, length}
use Rattle.count.specs.Rule.{exhausted}
use Rattle.count.specs.Run.{Within, In, NoneTwice}
use Rattle.nas_core.specs.declared.Core.{Core}
use Rattle.nas_core.specs.Keyed.{wraps}
use Rattle.nas_core.specs.Refusals.{limit}
use Rattle.nas_core.specs.Verify.{fits}
use Rattle.nas_5gs.specs.declared.Context.{Context}
use Rattle.nas_core.specs.declared.Direction.{Direction}
use Rattle.nas_core.specs.declared.Direction.TheVariants.{Uplink}
use Rattle.nas_5gs.specs.declared.Connection.{Connection}
use Rattle.nas_core.specs.ChangeAnswer.{Done}
use Rattle.nas_5gs.specs.Places.{direction_no, bearer_no, place_of, next_at}
use Rattle.nas_5gs.specs.Leaves.{leaves}
use Rattle.nas_5gs.specs.Changes.{new_of, restore_of, reselect_of}
use Rattle.nas_5gs.specs.Envelope.{envelope}
use Rattle.nas_5gs.specs.Eps.{eps_place, eps_bearer, eps_direction, eps_message}
use Rattle.promises.specs.Words.{SameKeys, record_of, Ahead, Succeeds, TakenAs}
use Rattle.promises.specs.Calls.{Call, reselect, open5gs, open_eps, Outcome, context_after, counts_used}

-- "a fresh context with non-null integrity": a creation that is accepted
pub record Fresh (x : Context) : Type 0 where
  pub integrity : ℕ
  pub ciphering : ℕ
  pub integrity_key : List ℕ
  pub ciphering_key : List ℕ
  pub made : new_of integrity ciphering integrity_key ciphering_key ≡ leaves Done x []
  pub guarded : integrity ≡ 0 → ⊥

-- "anew from each reselection away from null": a reselection that is accepted, of any context with integrity 0, to another code
pub record Reselected (x : Context) : Type 0 where
  pub before : Context
  pub null : wraps before.core ≡ true
  pub integrity : ℕ
  pub ciphering : ℕ
  pub integrity_key : List ℕ
  pub ciphering_key : List ℕ
  pub made : reselect_of before integrity ciphering integrity_key ciphering_key ≡ leaves Done x []
  pub guarded : integrity ≡ 0 → ⊥

-- "Restore records begin demand 3 afresh from the restored COUNTs": a restore that is accepted, with a code other than 0. What was used before it is not in
-- what is said, and may be used again
pub record Restored (x : Context) : Type 0 where
  pub integrity : ℕ
  pub ciphering : ℕ
  pub integrity_key : List ℕ
  pub ciphering_key : List ℕ
  pub next : List ℕ
  pub made : restore_of integrity ciphering integrity_key ciphering_key next ≡ leaves Done x []
  pub guarded : integrity ≡ 0 → ⊥

-- where the demand begins
pub data Begins (x : Context) : Type 0 where
  fresh : Fresh x → Begins x
  restored : Restored x → Begins x
  reselected : Reselected x → Begins x

-- a call that took x to y passed c over: c was not below the next COUNT, and now lies below the highest one used
abbrev pub PassedOver : ℕ → Context → Context → ℕ → Type 0
PassedOver p x y c = (next_at x p ≤ c) × (c + 1 < next_at y p)

module _ (G : Call → Context → Outcome) where
  -- of some calls, none is a reselection to an integrity code that P names and succeeds: a refused one changes nothing
  abbrev pub NeverTo : (ℕ → Type 0) → Context → List Call → Type 0
  NeverTo P x [] = Unit {0}
  NeverTo P x (k ∷ ks) =
      ((i c : ℕ) (ik ck : List ℕ) → k ≡ reselect i c ik ck → P i → Succeeds (G k (context_after G x ks)) → ⊥) × NeverTo P x ks

  abbrev pub NeverToNull : Context → List Call → Type 0
  NeverToNull = NeverTo (λ i. i ≡ 0)

  abbrev pub NeverReselected : Context → List Call → Type 0
  NeverReselected = NeverTo (λ i. Unit {0})

  -- "was passed over .. and has lain inside the window ever since": inside it now, and passed over by the last call or so before it
  abbrev pub InsideSince : ℕ → Context → List Call → ℕ → Type 0
  InsideSince p x [] c = ⊥
  InsideSince p x (k ∷ ks) c =
      Within (record_of p (context_after G x (k ∷ ks))) c
      × (PassedOver p (context_after G x ks) (context_after G x (k ∷ ks)) c ⊎ InsideSince p x ks c)

  -- "was passed over, never used, and has lain inside the window ever since"
  abbrev pub StillOpen : ℕ → Context → List Call → ℕ → Type 0
  StillOpen p x ks c = (In c (counts_used G p x ks) → ⊥) × InsideSince p x ks c

  -- when a message for COUNT c whose code fits the COUNTs that `fit` says is to be taken as c: "c is among the 256 COUNTs from the next one on, or was passed
  -- over, never used, and has lain inside the window ever since", but for the exception
  abbrev pub Due : ℕ → Context → List Call → (ℕ → Type 0) → ℕ → Type 0
  Due p x ks fit c =
      StillOpen p x ks c
      ⊎ (Ahead p (context_after G x ks) c × ((c' : ℕ) → StillOpen p x ks c' → c' % 256 ≡ c % 256 → fit c' → ⊥))

  -- Of a message sealed for COUNT c on the record at p, and the outcome of the matching open call.
  pub record Opens (p : ℕ) (x : Context) (ks : List Call) (fit : ℕ → Type 0) (o : Outcome) (c : ℕ) (inner out : List ℕ) : Type 0 where
    -- "uses c and hands over its octets exactly when .."
    pub exactly : TakenAs o c inner out ↔ Due p x ks fit c
    -- "a forward c whose code also fits a still open late COUNT with the same last octet is taken as that one"
    pub exception : (c' : ℕ) → StillOpen p x ks c' → c' % 256 ≡ c % 256 → fit c' → (o.values.uses ≡ true) × (o.values.count ≡ c')

  pub record Demand3 (x : Context) (ks : List Call) : Type 0 where
    -- "on each direction and connection no COUNT is used twice"
    pub once : (d : Direction) (k : Connection) → NoneTwice (counts_used G (place_of d k) x ks)
    -- the calls but reselection keep keys and codes
    pub keys : NeverReselected x ks → SameKeys x.core (context_after G x ks).core
    -- 5GS: y is the context that sealed the message, or any with the same keys and codes. Under header type 1, uplink, both outputs have room
    pub opens : (d : Direction) (k : Connection) (y : Core) (t c : ℕ) (inner out out2 : List ℕ)
        → let m = envelope y t c (bearer_no k) (direction_no d) inner in
        let now = context_after G x ks in
        SameKeys y now.core → 1 ≤ t → t ≤ 4 → c < exhausted → 1 ≤ length inner → length inner ≤ limit → length inner ≤ length out
        → (t ≡ 1 → d ≡ Uplink → length inner ≤ length out2)
        → Opens (place_of d k) x ks (λ c'. fits now.core c' (bearer_no k) (direction_no d) 2 m ≡ true) (G (open5gs d k m out out2) now) c inner out
    -- EPS, on the uplink 3GPP record
    pub opens-eps : (y : Core) (c : ℕ) (inner out : List ℕ)
        → let m = eps_message y c inner in
        let now = context_after G x ks in
        SameKeys y now.core → c < exhausted → 1 ≤ length inner → length inner ≤ limit → length inner ≤ length out
        → Opens eps_place x ks (λ c'. fits now.core c' eps_bearer eps_direction 1 m ≡ true) (G (open_eps m out) now) c inner out

-- the demand, of whatever gives the outcomes
abbrev pub Keeps : (Call → Context → Outcome) → Type 0
Keeps G = (x : Context) → Begins x → (ks : List Call) → NeverToNull G x ks → Demand3 G x ks
