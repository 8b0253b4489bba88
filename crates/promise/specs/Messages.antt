-- Messages for a COUNT, and what the call that opens one does, after any calls. A kind is a family of messages that differ in keys, octets and COUNT: the 5GS
-- and EPS messages of a 5GS context are one kind; a message that carries fewer bits of its COUNT, or may not open late, is another.
use Rattle.std.specs.Prelude.{ℕ, ◌%◌, ◌^◌, ◌<◌, ◌≡◌, Bool, true, false, cond, ◌↔◌, List}
use Rattle.count.specs.Rule.{Opening, exhausted, opening, forward_only}
use Rattle.count.specs.Run.{State, act_of}
use Rattle.count.specs.Facts.{Takes, Reach}
use Rattle.count.specs.Machine.{Machine, view}
use Rattle.promise.specs.Words.{Words}
use Rattle.promise.specs.Kept.{Keeping, Begins, record_now, StillOpen, Due}

pub record Kind {X C : Type 0} (T : Machine X C) : Type 1 where
  -- a message but for its COUNT: the sealer's keys and codes, where it goes, the inner octets, and the opener's output
  pub Message : Type 0
  pub place : Message → ℕ
  -- how many low bits of its COUNT it carries, and whether it may open late
  pub bits : ℕ
  pub late : Bool
  -- the code of the message for c fits COUNT c'
  pub fits : Message → ℕ → ℕ → Bool
  -- the matching open call, given the message for c
  pub call : Message → ℕ → C
  -- "with the same keys and codes .. within limit and room": nothing but the COUNT can refuse the message for c
  pub Ready : X → Message → ℕ → Type 0
  -- the call, given the message for c, "uses c and hands over its octets"; it uses c'
  pub Taken : X → Message → ℕ → Type 0
  pub Names : X → Message → ℕ → ℕ → Type 0

-- what the COUNT rule finds in a record for a message for c
abbrev pub finds_in : Bool → ℕ → (ℕ → Bool) → State → ℕ → Opening
finds_in late k fits s c = cond late (opening k false fits s.size s.at (c % 2 ^ k)) (forward_only k false fits s.at (c % 2 ^ k))

module _ {X C : Type 0} {T : Machine X C} (K : Kind T) where
  abbrev pub finds : X → K.Message → ℕ → Opening
  finds x m c = finds_in K.late K.bits (K.fits m c) (view T (K.place m) x) c

  -- the call, given the message for c, goes by what the COUNT rule finds
  pub record ByRule (x : X) (m : K.Message) (c : ℕ) : Type 0 where
    pub count : c < exhausted
    -- a window narrower than the bits carried has one late candidate at most; nothing is asked where none is tried
    pub small : K.late ≡ true → T.size x < 2 ^ K.bits
    pub own : K.fits m c c ≡ true
    pub place : T.place (K.call m c) x ≡ K.place m
    pub does : T.does (K.call m c) x ≡ act_of false (finds x m c)
    pub taken : Takes (finds x m c) c ↔ K.Taken x m c
    pub names : (c' : ℕ) → Takes (finds x m c) c' ↔ K.Names x m c c'

  -- what a context shows of a kind
  abbrev pub AllByRule : (X → Type 0) → Type 0
  AllByRule Good = (x : X) (m : K.Message) (c : ℕ) → Good x → K.Ready x m c → ByRule x m c

  -- what it gets, after the calls ks from x: demand 3 of the message for c
  pub record Opens (W : Words T) (x : X) (ks : List C) (m : K.Message) (c : ℕ) : Type 0 where
    pub exactly : K.late ≡ true → K.Taken (W.after x ks) m c ↔ Due W (K.place m) x ks K.bits (λ c'. K.fits m c c' ≡ true) c
    pub exception : K.late ≡ true
        → (c' : ℕ) → StillOpen W (K.place m) x ks c' → c' % 2 ^ K.bits ≡ c % 2 ^ K.bits → K.fits m c c' ≡ true → K.Names (W.after x ks) m c c'
    pub forward-only : K.late ≡ false → K.Taken (W.after x ks) m c ↔ Reach K.bits (record_now W (K.place m) x ks) c

abbrev pub OpensBy : Type 1
OpensBy =
    (X C : Type 0) (T : Machine X C) (W : Words T) (Good : X → Type 0) (K : Kind T) → Keeping W Good → AllByRule K Good
    → (x : X) (ks : List C) (m : K.Message) (c : ℕ) → Begins T Good (K.place m) x → K.Ready (W.after x ks) m c → Opens K W x ks m c
