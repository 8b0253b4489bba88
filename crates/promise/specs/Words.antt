-- A run of calls, in words. Each context has its own words, written out in its statements for its reader; `Words` holds them with the equations by which
-- they are read, so that what is shown here of any words is said in those of each context, and no word is translated. An instance shows each equation by refl.
use Rattle.std.specs.Prelude.{ℕ, ◌+◌, ◌≤◌, ◌<◌, ◌≡◌, cond, ◌⊎◌, ◌↔◌, List, [], ◌∷◌, ◌++◌, eqb}
use Rattle.count.specs.Run.{Within}
use Rattle.count.specs.Machine.{Machine, view}

-- a call that took x to y passed c over: c was not below the next COUNT, and now lies below the highest one used
abbrev pub PassedOver : {X C : Type 0} → Machine X C → ℕ → X → X → ℕ → Type 0
PassedOver T p x y c = ((view T p x).at.next ≤ c) × (c + 1 < (view T p y).at.next)

-- X are the contexts and C the calls; in a list of calls the last one stands first.
pub record Words {X C : Type 0} (T : Machine X C) : Type 1 where
  -- the COUNTs that the answer of a call says were used: one or none
  pub answered : C → X → List ℕ
  -- the context after calls
  pub after : X → List C → X
  pub after_none : (x : X) → after x [] ≡ x
  pub after_call : (k : C) (x : X) (ks : List C) → after x (k ∷ ks) ≡ T.gives k (after x ks)
  -- the COUNTs that the answers of the calls on the record at p say were used
  pub counts : ℕ → X → List C → List ℕ
  pub counts-none : (p : ℕ) (x : X) → counts p x [] ≡ []
  pub counts-call : (p : ℕ) (k : C) (x : X) (ks : List C)
      → counts p x (k ∷ ks) ≡ cond (eqb p (T.place k (after x ks))) (answered k (after x ks)) [] ++ counts p x ks
  -- "was passed over .. and has lain inside the window ever since": inside it now, and passed over by the last call or so before it
  pub lain : ℕ → X → List C → ℕ → Type 0
  pub lain-none : (p : ℕ) (x : X) (c : ℕ) → lain p x [] c → ⊥
  pub lain-call : (p : ℕ) (k : C) (x : X) (ks : List C) (c : ℕ)
      → lain p x (k ∷ ks) c
      ↔ (Within (view T p (after x (k ∷ ks))) c × (PassedOver T p (after x ks) (after x (k ∷ ks)) c ⊎ lain p x ks c))
