-- What is kept of the record at p over any calls: no COUNT is used twice, and exactly which messages are taken as their COUNT. It is demand 3, of what the
-- COUNT rule finds; specs/Messages brings it to messages and the calls that open them.
use Rattle.std.specs.Prelude.{ℕ, ◌%◌, ◌^◌, ◌≤◌, ◌<◌, ◌≡◌, Bool, true, false, ◌⊎◌, ◌↔◌, List, length, Ok}
use Rattle.count.specs.declared.Taken.TheVariants.{Forward}
use Rattle.count.specs.Rule.{exhausted, opening, forward_only}
use Rattle.count.specs.Run.{State, Shut, In, NoneTwice, used}
use Rattle.count.specs.Facts.{Takes, Reach}
use Rattle.count.specs.Machine.{Machine, view, Sound}
use Rattle.promise.specs.Words.{Words}

-- What a context shows of its calls, where it is Good (non-null integrity and no fault): each does one valid act on one record, and answers the COUNT that
-- it used.
pub record Keeping {X C : Type 0} {T : Machine X C} (W : Words T) (Good : X → Type 0) : Type 0 where
  pub sound : Sound T Good
  pub answers : (k : C) (x : X) → Good x → W.answered k x ≡ used (T.does k x)

-- Where a run may begin: nothing of the record is open late. A fresh context is so, whatever its next COUNTs, and one just reselected away from null.
pub record Begins {X C : Type 0} (T : Machine X C) (Good : X → Type 0) (p : ℕ) (x : X) : Type 0 where
  pub good : Good x
  pub there : p < length (T.records x)
  pub counted : (view T p x).at.next ≤ exhausted
  pub shut : Shut (view T p x)

-- Of the record at p, after the calls ks from x.
module _ {X C : Type 0} {T : Machine X C} (W : Words T) (p : ℕ) (x : X) (ks : List C) where
  abbrev pub record_now : State
  record_now = view T p (W.after x ks)

  -- "was passed over, never used, and has lain inside the window ever since"
  abbrev pub StillOpen : ℕ → Type 0
  StillOpen c = (In c (W.counts p x ks) → ⊥) × W.lain p x ks c

  -- when a message for COUNT c that carries its k low bits, and whose code fits the COUNTs that `fit` says, is to be taken as c: "c is among the 2^k COUNTs
  -- from the next one on, or was passed over, never used, and has lain inside the window ever since", but for the exception
  abbrev pub Due : ℕ → (ℕ → Type 0) → ℕ → Type 0
  Due k fit c = StillOpen c ⊎ (Reach k record_now c × ((c' : ℕ) → StillOpen c' → c' % 2 ^ k ≡ c % 2 ^ k → fit c' → ⊥))

  pub record Kept : Type 0 where
    -- "no COUNT is used twice"
    pub once : NoneTwice (W.counts p x ks)
    -- "uses c .. exactly when"
    pub taken : (k : ℕ) (fits : ℕ → Bool) (c : ℕ) → record_now.size < 2 ^ k → c < exhausted → fits c ≡ true
        → Takes (opening k false fits record_now.size record_now.at (c % 2 ^ k)) c ↔ Due k (λ c'. fits c' ≡ true) c
    -- "a forward c whose code also fits a still open late COUNT with the same last octet is taken as that one"
    pub taken-late : (k : ℕ) (fits : ℕ → Bool) (c c' : ℕ) → record_now.size < 2 ^ k → StillOpen c' → c' % 2 ^ k ≡ c % 2 ^ k → fits c' ≡ true
        → Takes (opening k false fits record_now.size record_now.at (c % 2 ^ k)) c'
    -- a message that may not open late; nothing is asked of the window
    pub taken-forward : (k : ℕ) (fits : ℕ → Bool) (c : ℕ) → c < exhausted → fits c ≡ true
        → (forward_only k false fits record_now.at (c % 2 ^ k) ≡ Ok (Forward c)) ↔ Reach k record_now c

abbrev pub KeptBy : Type 1
KeptBy =
    (X C : Type 0) (T : Machine X C) (W : Words T) (Good : X → Type 0) → Keeping W Good
    → (p : ℕ) (x : X) → Begins T Good p x → (ks : List C) → Good (W.after x ks) × Kept W p x ks
