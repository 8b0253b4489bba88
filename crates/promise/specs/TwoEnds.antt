-- Document 02, item 14: "Two fresh contexts with equal keys and codes and non-null integrity, the receiver's window set to w before its first message and not
-- changed; one end only seals non-empty messages in one record .., the other only opens what arrives, by the matching call with room and within the limit, and
-- the channel loses, repeats and reorders but makes up nothing; no sealed message's code fits a COUNT other than its own. Accepted here means that its COUNT is
-- used and its octets handed over, refusal 8 included. Then each message is accepted at most once. It is accepted at its first arrival exactly if it lies at
-- most w below the highest accepted so far, or at the next COUNT or at most 255 above it, and what is handed over is what was sealed under that COUNT."
-- Said here once, of any contexts and calls; which these are, crate two_ends says of each link. docs/TWO-ENDS.md explains it with a drawing.
use Rattle.std.specs.Prelude.{ℕ, ◌+◌, ◌≤◌, ◌<◌, max, ◌≡◌, Bool, true, cond, ◌⊎◌, ◌↔◌, List, [], ◌∷◌, ◌++◌}
use Rattle.std.proofs.Common.{inl, inr}
use Rattle.count.specs.Rule.{exhausted}
use Rattle.promise.specs.Outcomes.{Outcome, used_by, Succeeds, Uses, written}

-- A message that went out: the seal call that made it, the COUNT that its answer tells, and the octets that it wrote.
pub record Sent (S : Type 0) : Type 0 where
  pub seal : S
  pub count : ℕ
  pub octets : List ℕ

-- What is to be said of contexts X, so that they are two ends of one record.
pub record Link (X : Type 0) : Type 1 where
  -- "fresh .. and non-null integrity"; "equal keys and codes"; the call that sets the window
  pub Fresh : X → Type 0
  pub SameKeys : X → X → Type 0
  pub window : ℕ → X → Outcome X
  -- the seal calls with their arguments, what each gives; "non-empty messages in one record"
  pub Seal : Type 0
  pub seal : Seal → X → Outcome X
  pub Allowed : Seal → Type 0
  -- the code of a message, with the keys of a context, fits a COUNT
  pub fits : X → Sent Seal → ℕ → Bool
  -- the outputs that an open call is lent; "with room"; "the matching call", which sees the octets alone, and what it gives
  pub Lent : Type 0
  pub Room : Sent Seal → Lent → Type 0
  pub opens : Sent Seal → Lent → X → Outcome X
  -- "its COUNT is used and its octets handed over, refusal 8 included"; else: 6 or 7, and context and outputs are as before
  pub Accepted : Sent Seal → Lent → X → Type 0
  pub Refused : Sent Seal → Lent → X → Type 0

-- the highest of a and the numbers of l
abbrev pub highest : ℕ → List ℕ → ℕ
highest a [] = a
highest a (b ∷ l) = max a (highest b l)

-- by the COUNTs accepted so far: "at most w below the highest accepted so far, or at the next COUNT or at most 255 above it". As long as none is accepted, there
-- is no highest, and the next COUNT is 0.
abbrev pub InReach : ℕ → List ℕ → ℕ → Type 0
InReach w [] c = c ≤ 255
InReach w (a ∷ l) c =
    let h = highest a l in
    let next = h + 1 in
    ((c ≤ h) × (h ≤ c + w)) ⊎ ((next ≤ c) × (c ≤ next + 255))

-- In lists of calls, messages and arrivals the last one stands first.
module _ {X : Type 0} (L : Link X) where
  abbrev pub Message : Type 0
  Message = Sent L.Seal

  -- "one end only seals": the sender after some seals, and what went out. A refused seal sends nothing.
  abbrev pub sender_after : X → List L.Seal → X
  sender_after z [] = z
  sender_after z (s ∷ l) = (L.seal s (sender_after z l)).context

  abbrev pub sent_by : X → List L.Seal → List Message
  sent_by z [] = []
  sent_by z (s ∷ l) =
      let o = L.seal s (sender_after z l) in
      cond o.values.uses (record { seal = s; count = o.values.count; octets = written o } ∷ sent_by z l) (sent_by z l)

  abbrev pub AllAllowed : List L.Seal → Type 0
  AllAllowed [] = Unit {0}
  AllAllowed (s ∷ l) = L.Allowed s × AllAllowed l

  -- a place among what was sent, and the message there
  abbrev pub Place : List Message → Type 0
  Place [] = ⊥
  Place (m ∷ l) = Unit {0} ⊎ Place l

  abbrev pub at : (l : List Message) → Place l → Message
  at [] none = elim none [ ]
  at (m ∷ l) (inl here) = m
  at (m ∷ l) (inr n) = at l n

  -- "no sealed message's code fits a COUNT other than its own": of what was sent, and of the COUNTs, the numbers below 2^24
  abbrev pub NoOther : X → List Message → Type 0
  NoOther z sent = (n : Place sent) (c : ℕ) → c < exhausted → L.fits z (at sent n) c ≡ true → c ≡ (at sent n).count

  -- "the channel loses, repeats and reorders but makes up nothing": what arrives is any list of places among what was sent. It is opened "with room".
  pub record Arrival (sent : List Message) : Type 0 where
    pub from : Place sent
    pub lent : L.Lent
    pub room : L.Room (at sent from) lent

  module _ (sent : List Message) (y : X) where
    -- "the other only opens what arrives": the receiver after some arrivals, and the COUNTs that its answers say were used
    abbrev pub receiver_after : List (Arrival sent) → X
    receiver_after [] = y
    receiver_after (a ∷ l) = (L.opens (at sent a.from) a.lent (receiver_after l)).context

    abbrev pub accepted : List (Arrival sent) → List ℕ
    accepted [] = []
    accepted (a ∷ l) = used_by (L.opens (at sent a.from) a.lent (receiver_after l)).values ++ accepted l

    -- a arrives after l, and is accepted, or refused
    abbrev pub IsAccepted : Arrival sent → List (Arrival sent) → Type 0
    IsAccepted a l = L.Accepted (at sent a.from) a.lent (receiver_after l)

    abbrev pub IsRefused : Arrival sent → List (Arrival sent) → Type 0
    IsRefused a l = L.Refused (at sent a.from) a.lent (receiver_after l)

    -- the message at n has arrived; it was accepted
    abbrev pub Arrived : Place sent → List (Arrival sent) → Type 0
    Arrived n [] = ⊥
    Arrived n (b ∷ l) = (b.from ≡ n) ⊎ Arrived n l

    abbrev pub WasAccepted : Place sent → List (Arrival sent) → Type 0
    WasAccepted n [] = ⊥
    WasAccepted n (b ∷ l) = ((b.from ≡ n) × IsAccepted b l) ⊎ WasAccepted n l

    -- What is shown of every arrival a, whatever arrived before it.
    pub record Arrives (w : ℕ) (a : Arrival sent) (l : List (Arrival sent)) : Type 0 where
      -- "each message is accepted at most once": once it was, it is refused whenever it arrives again, and nothing changes
      pub once : WasAccepted a.from l → IsRefused a l
      -- "It is accepted at its first arrival exactly if .."
      pub first : (Arrived a.from l → ⊥) → IsAccepted a l ↔ InReach w (accepted l) (at sent a.from).count
      -- and so it is at every later one, as long as it was not accepted
      pub later : (WasAccepted a.from l → ⊥) → IsAccepted a l ↔ InReach w (accepted l) (at sent a.from).count
      -- "what is handed over is what was sealed under that COUNT": if the answer says that a COUNT was used, it is the message's own, and its octets come out
      pub hands : (c : ℕ) → Uses (L.opens (at sent a.from) a.lent (receiver_after l)) c → (c ≡ (at sent a.from).count) × IsAccepted a l
      -- there is no third way
      pub either : IsAccepted a l ⊎ IsRefused a l

  -- z seals; x is set to window w, and opens. Premise is what is asked of the codes of what was sent.
  abbrev pub Meet : (X → List Message → Type 0) → Type 0
  Meet Premise =
      (z x : X) → L.Fresh z → L.Fresh x → L.SameKeys z x
      → (w : ℕ) → Succeeds (L.window w x)
      → (seals : List L.Seal) → AllAllowed seals → let sent = sent_by z seals in
      Premise z sent
      → (a : Arrival sent) (l : List (Arrival sent)) → Arrives sent (L.window w x).context w a l

  abbrev pub TwoEnds : Type 0
  TwoEnds = Meet NoOther
