-- Demand 3 of the EPS context: "From a fresh EPS context with non-null integrity, over its calls but restore and reselection (and as item 4 extends it): on each
-- record no COUNT is used twice, seals, opens and SERVICE REQUESTs counted together. A non-empty message sealed for c, types 1 to 4: word for word as in 5GS, with
-- 256, late half and exception. A SERVICE REQUEST sealed for c with identifier i and the same keys and codes, opened uplink with any output: uses c and answers i,
-- writing nothing, exactly when c is among the 32 COUNTs from the next one on. No late half, no exception."
-- It does not say that a SERVICE REQUEST out of reach is refused: with 16 bits of code it may be taken as another COUNT, one time in 65,536, and uses that one.
-- As item 4 extends it: it holds across reselections between non-null codes, and anew from each reselection away from null. So it is said of any calls but
-- restore and reselection to null, and "the same keys and codes" are those that the context has when the message comes.
use Rattle.std.specs.Prelude.{ℕ, ◌+◌, ◌%◌, ◌≤◌, ◌<◌, ◌≡◌, true, ◌⊎◌, ◌↔◌, List, [], ◌∷◌, length}
use Rattle.count.specs.Rule.{exhausted}
use Rattle.count.specs.Run.{Within, In, NoneTwice}
use Rattle.nas_core.specs.declared.Core.{Core}
use Rattle.nas_core.specs.Keyed.{wraps}
use Rattle.nas_core.specs.Refusals.{limit}
use Rattle.nas_core.specs.Verify.{fits}
use Rattle.nas_eps.specs.declared.Context.{Context}
use Rattle.nas_core.specs.declared.Direction.{Direction}
use Rattle.nas_core.specs.declared.Direction.TheVariants.{Uplink}
use Rattle.nas_core.specs.ChangeAnswer.{Done}
use Rattle.nas_eps.specs.Places.{uplink, place_of, next_at}
use Rattle.nas_eps.specs.Leaves.{leaves}
use Rattle.nas_eps.specs.Changes.{new_of, reselect_of}
use Rattle.nas_eps.specs.Octets.{bearer, message, service_request}
use Rattle.promises_eps.specs.Words.{SameKeys, record_of, Ahead, Succeeds, TakenAs, AnswersRequest}
use Rattle.promises_eps.specs.Calls.{Call, reselect, open_message, Outcome, context_after, counts_used}

-- "a fresh EPS context with non-null integrity": a creation that is accepted
pub record Fresh (x : Context) : Type 0 where
  pub integrity : ℕ
  pub ciphering : ℕ
  pub integrity_key : List ℕ
  pub ciphering_key : List ℕ
  pub made : new_of integrity ciphering integrity_key ciphering_key ≡ leaves Done x []
  pub guarded : integrity ≡ 0 → ⊥

-- "anew from each reselection away from null": a reselection that is accepted, of any context with integrity 0, to another code
pub record Reselected (x : Context) : Type 0 where
  pub before : Context
  pub null : wraps before.core ≡ true
  pub integrity : ℕ
  pub ciphering : ℕ
  pub integrity_key : List ℕ
  pub ciphering_key : List ℕ
  pub made : reselect_of before integrity ciphering integrity_key ciphering_key ≡ leaves Done x []
  pub guarded : integrity ≡ 0 → ⊥

-- where the demand begins
pub data Begins (x : Context) : Type 0 where
  fresh : Fresh x → Begins x
  reselected : Reselected x → Begins x

-- a call that took x to y passed c over: c was not below the next COUNT, and now lies below the highest one used
abbrev pub PassedOver : ℕ → Context → Context → ℕ → Type 0
PassedOver p x y c = (next_at x p ≤ c) × (c + 1 < next_at y p)

module _ (G : Call → Context → Outcome) where
  -- of some calls, none is a reselection to an integrity code that P names and succeeds: a refused one changes nothing
  abbrev pub NeverTo : (ℕ → Type 0) → Context → List Call → Type 0
  NeverTo P x [] = Unit {0}
  NeverTo P x (k ∷ ks) =
      ((i c : ℕ) (ik ck : List ℕ) → k ≡ reselect i c ik ck → P i → Succeeds (G k (context_after G x ks)) → ⊥) × NeverTo P x ks

  abbrev pub NeverToNull : Context → List Call → Type 0
  NeverToNull = NeverTo (λ i. i ≡ 0)

  abbrev pub NeverReselected : Context → List Call → Type 0
  NeverReselected = NeverTo (λ i. Unit {0})

  -- "was passed over .. and has lain inside the window ever since": inside it now, and passed over by the last call or so before it
  abbrev pub InsideSince : ℕ → Context → List Call → ℕ → Type 0
  InsideSince p x [] c = ⊥
  InsideSince p x (k ∷ ks) c =
      Within (record_of p (context_after G x (k ∷ ks))) c
      × (PassedOver p (context_after G x ks) (context_after G x (k ∷ ks)) c ⊎ InsideSince p x ks c)

  -- "was passed over, never used, and has lain inside the window ever since"
  abbrev pub StillOpen : ℕ → Context → List Call → ℕ → Type 0
  StillOpen p x ks c = (In c (counts_used G p x ks) → ⊥) × InsideSince p x ks c

  -- when a message of types 1 to 4 for COUNT c whose code fits the COUNTs that `fit` says is to be taken as c: "c is among the 256 COUNTs from the next one on, or
  -- was passed over, never used, and has lain inside the window ever since", but for the exception
  abbrev pub Due : ℕ → Context → List Call → (ℕ → Type 0) → ℕ → Type 0
  Due p x ks fit c =
      StillOpen p x ks c
      ⊎ (Ahead 256 p (context_after G x ks) c × ((c' : ℕ) → StillOpen p x ks c' → c' % 256 ≡ c % 256 → fit c' → ⊥))

  -- Of a message sealed for COUNT c on the record at p, and the outcome of the matching open call.
  pub record Opens (p : ℕ) (x : Context) (ks : List Call) (fit : ℕ → Type 0) (o : Outcome) (c : ℕ) (inner out : List ℕ) : Type 0 where
    -- "uses c and hands over its octets exactly when .."
    pub exactly : TakenAs o c inner out ↔ Due p x ks fit c
    -- "a forward c whose code also fits a still open late COUNT with the same last octet is taken as that one"
    pub exception : (c' : ℕ) → StillOpen p x ks c' → c' % 256 ≡ c % 256 → fit c' → (o.values.uses ≡ true) × (o.values.count ≡ c')

  pub record Demand3 (x : Context) (ks : List Call) : Type 0 where
    -- "on each record no COUNT is used twice"
    pub once : (d : Direction) → NoneTwice (counts_used G (place_of d) x ks)
    -- the calls but reselection keep keys and codes
    pub keys : NeverReselected x ks → SameKeys x.core (context_after G x ks).core
    -- types 1 to 4: y is the context that sealed the message, or any with the same keys and codes
    pub opens : (d : Direction) (y : Core) (t c : ℕ) (inner out : List ℕ)
        → let m = message y t c (place_of d) inner in
        let now = context_after G x ks in
        SameKeys y now.core → 1 ≤ t → t ≤ 4 → c < exhausted → 1 ≤ length inner → length inner ≤ limit → length inner ≤ length out
        → Opens (place_of d) x ks (λ c'. fits now.core c' bearer (place_of d) 1 m ≡ true) (G (open_message d m out) now) c inner out
    -- SERVICE REQUEST, whatever the window and the output
    pub requests : (y : Core) (i c : ℕ) (out : List ℕ)
        → let now = context_after G x ks in
        SameKeys y now.core → i ≤ 7 → c < exhausted
        → AnswersRequest (G (open_message Uplink (service_request y i c) out) now) c i out ↔ Ahead 32 uplink now c

-- the demand, of whatever gives the outcomes
abbrev pub Keeps : (Call → Context → Outcome) → Type 0
Keeps G = (x : Context) → Begins x → (ks : List Call) → NeverToNull G x ks → Demand3 G x ks
