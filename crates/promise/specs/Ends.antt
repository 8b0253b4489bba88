-- How two ends are shown to meet, once for every context: what a context shows of its link, in the words of crate count.
use Rattle.std.specs.Prelude.{ℕ, ◌+◌, ◌%◌, ◌≤◌, ◌<◌, ◌≡◌, true, false, ◌↔◌}
use Rattle.count.specs.Rule.{Opening, exhausted, opening}
use Rattle.count.specs.Run.{State, act, act_of, used}
use Rattle.count.specs.Facts.{Takes}
use Rattle.promise.specs.Outcomes.{used_by, Succeeds, written}
use Rattle.promise.specs.TwoEnds.{Link, Message, TwoEnds}

-- state: the record of the link, with the window size. Good z: contexts with the keys and codes of z, of which nothing but the COUNT can refuse a message.
-- Right z: messages as z seals them.
module _ {X : Type 0} (L : Link X) (state : X → State) (Good : X → X → Type 0) (Right : X → Message L → Type 0) where
  -- a seal call uses the next COUNT or one above it, or none
  pub record Sends (z x : X) (s : L.Seal) : Type 0 where
    pub good : Good z (L.seal s x).context
    pub refused : (L.seal s x).values.uses ≡ false → (state (L.seal s x).context).at.next ≡ (state x).at.next
    pub sent : let o = L.seal s x in
        o.values.uses ≡ true
        → ((state x).at.next ≤ o.values.count)
        × ((state o.context).at.next ≡ o.values.count + 1)
        × Right z (record { seal = s; count = o.values.count; octets = written o })

  -- what the COUNT rule finds for a message
  abbrev pub finds : X → X → Message L → Opening
  finds z x m = opening 8 false (L.fits z m) (state x).size (state x).at (m.count % 256)

  -- the matching call goes by it
  pub record TakesBy (z x : X) (m : Message L) (r : L.Lent) : Type 0 where
    pub count : m.count < exhausted
    pub own : L.fits z m m.count ≡ true
    pub small : (state x).size < 256
    pub good : Good z (L.opens m r x).context
    pub after : state (L.opens m r x).context ≡ act (act_of false (finds z x m)) (state x)
    pub answers : used_by (L.opens m r x).values ≡ used (act_of false (finds z x m))
    pub accepts : Takes (finds z x m) m.count ↔ L.Accepted m r x
    pub refuses : ((c : ℕ) → Takes (finds z x m) c → ⊥) → L.Refused m r x

  pub record Shown : Type 0 where
    pub sender : (z : X) → L.Fresh z → Good z z
    pub receiver : (z x : X) (w : ℕ) → L.Fresh x → L.SameKeys z x → Succeeds (L.window w x)
        → let y = (L.window w x).context in Good z y × ((state y).at.next ≡ 0) × ((state y).size ≡ w)
    pub sends : (z x : X) (s : L.Seal) → Good z x → L.Allowed s → Sends z x s
    pub takes : (z x : X) (m : Message L) (r : L.Lent) → Good z x → Right z m → L.Room m r → TakesBy z x m r

abbrev pub EndsMeet : Type 1
EndsMeet =
    (X : Type 0) (L : Link X) (state : X → State) (Good : X → X → Type 0) (Right : X → Message L → Type 0)
    → Shown L state Good Right → TwoEnds L
