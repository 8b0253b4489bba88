-- Two ends and a bad channel: the receiver as a run of one record.
use Rattle.std.specs.Prelude.{Option, Ok, Err}
use Prim.Native.Nat.{ℕ, ◌+◌, ◌%◌, ◌≤◌, ◌<◌}
use mathlib.Core.Path.{◌≡◌, refl, sym, ap, ◌∙◌, subst}
use mathlib.Core.Bool.{Bool, true, false, cond}
use mathlib.Core.Logic.{◌⊎◌, inl, inr, ⊎_elim, ◌↔◌}
use mathlib.Core.List.{List, [], ◌∷◌, ◌++◌}
use native.Mathlib.Omega.{arith}
use Rattle.count.specs.Rule.{Opening, exhausted, opening, late_of, forward_of}
use Rattle.count.specs.declared.Taken.TheVariants.{Late, Forward}
use Rattle.count.specs.declared.Missed.TheVariants.{NoCandidate, WrongCode}
use Rattle.count.specs.Run.{State, Act, act, act_of, used, Within, Valid, after, Fair, history, In, StillOpen}
use Rattle.count.specs.Facts.{Takes, Reach, Facts}
use Rattle.count.proofs.Candidates.{forward-reached, late-found}
use Rattle.count.proofs.Distance.{le-or-lt}
use Rattle.count.proofs.Law.{to_clear}
use Rattle.count.proofs.Openings.{answers, opening-valid, facts}
use Rattle.count.proofs.Runs.{in_either, in-first, in-second}
use Rattle.promise.specs.Outcomes.{Outcome, used_by, Uses, written}
use Rattle.promise.specs.TwoEnds.{Link, InReach, Message, sender_after, sent_by, AllAllowed, Place, at, NoOther, Arrival, receiver_after, accepted, IsAccepted, Arrived, WasAccepted, Arrives}
use Rattle.promise.specs.Ends.{Sends, finds, TakesBy, Shown, EndsMeet}
use Rattle.promise.proofs.Kept.{next_under, not_so}
use Rattle.promise.proofs.Steady.{next_of, next-highest, next-in, in-under, Quiet, AllQuiet, same_size, next-is, steady}

-- what an opening finds: its act, and the COUNTs that it uses
found-quiet : (o : Opening) → Quiet (act_of false o)
found-quiet (Ok (Late c)) = tt
found-quiet (Ok (Forward c)) = tt
found-quiet (Err NoCandidate) = tt
found-quiet (Err WrongCode) = tt

used-taken : (o : Opening) (c : ℕ) → In c (used (act_of false o)) → Takes o c
used-taken (Ok (Late x)) c (inl e) = inl (ap (λ (x : ℕ). Ok (Late x)) (sym e))
used-taken (Ok (Forward x)) c (inl e) = inr (ap (λ (x : ℕ). Ok (Forward x)) (sym e))
used-taken (Ok (Late x)) c (inr x3) = elim x3 [ ]
used-taken (Ok (Forward x)) c (inr x4) = elim x4 [ ]
used-taken (Err NoCandidate) c x3 = elim x3 [ ]
used-taken (Err WrongCode) c x4 = elim x4 [ ]

taken-used : (o : Opening) (c : ℕ) → Takes o c → In c (used (act_of false o))
taken-used o c (inl e) = rw e (inl refl)
taken-used o c (inr e) = rw e (inl refl)

-- none, or one
taken-or-not : (o : Opening) → ((c : ℕ) × Takes o c) ⊎ ((c : ℕ) → Takes o c → ⊥)
taken-or-not (Ok (Late c)) = inl (c, inl refl)
taken-or-not (Ok (Forward c)) = inl (c, inr refl)
taken-or-not (Err NoCandidate) = inr (λ c h. taken-used (Err NoCandidate) c h)
taken-or-not (Err WrongCode) = inr (λ c h. taken-used (Err WrongCode) c h)

-- what is found fits, and is a COUNT
module _ (fits : ℕ → Bool) (s : State) (o c : ℕ) where
  abbrev late : Option ℕ
  late = late_of 8 s.size s.at o

  abbrev ahead : Option ℕ
  ahead = forward_of 8 false s.at o

  found-fits : Takes (opening 8 false fits s.size s.at o) c → fits c ≡ true
  unfolding opening
  found-fits (inl e) = ((answers fits late ahead (Ok (Late c))).0 e).1
  found-fits (inr e) = ((answers fits late ahead (Ok (Forward c))).0 e).2

  found-count : s.at.next ≤ exhausted → Takes (opening 8 false fits s.size s.at o) c → c < exhausted
  unfolding opening
  found-count h (inl e) =
      let u = to_clear s c (late-found 8 s.size s.at o c ((answers fits late ahead (Ok (Late c))).0 e).0).0 in
      omega (arith, u.within.under)
  found-count h (inr e) = (forward-reached 8 s.at o c ((answers fits late ahead (Ok (Forward c))).0 e).1).0

-- the statement's words for the reach, by the next COUNT
reach-by : (w : ℕ) (l : List ℕ) (c : ℕ)
    → (((c < next_of l) × (next_of l ≤ c + 1 + w)) ⊎ ((next_of l ≤ c) × (c < next_of l + 256))) ↔ InReach w l c
reach-by w [] c = (⊎_elim (λ r. absurd (omega (arith, r.0))) (λ r. omega (arith, r.1)), λ r. inr (omega arith, omega (arith, r)))
reach-by w (a ∷ l) c =
    let e = next-highest a l in (
      ⊎_elim (λ r. inl (omega (arith, r.0, e), omega (arith, r.1, e))) (λ r. inr (omega (arith, r.0, e), omega (arith, r.1, e))),
      ⊎_elim (λ r. inl (omega (arith, r.0, e), omega (arith, r.1, e))) (λ r. inr (omega (arith, r.0, e), omega (arith, r.1, e))),
    )

uses-in : {X : Type 0} (o : Outcome X) (c : ℕ) → Uses o c → In c (used_by o.values)
uses-in o c u = rw u.0 (inl (sym u.1))

module _ {X : Type 0} (L : Link X) where
  -- a message more, if b
  abbrev pub added : Bool → Message L → List (Message L) → List (Message L)
  added b m l = cond b (m ∷ l) l

  module _ (P : Message L → Type 0) where
    pub each-added : (b : Bool) (m : Message L) (l : List (Message L)) → (b ≡ true → P m) → ((n : Place L l) → P (at L l n))
        → (n : Place L (added b m l)) → P (at L (added b m l) n)
    each-added true m l new old (inl u) = new refl
    each-added true m l new old (inr n) = old n
    each-added false m l new old n = old n

  Apart : List (Message L) → Type 0
  Apart l = (n n' : Place L l) → (at L l n).count ≡ (at L l n').count → n ≡ n'

  apart-added : (b : Bool) (m : Message L) (l : List (Message L)) → (b ≡ true → (n : Place L l) → (at L l n).count < m.count) → Apart l → Apart (added b m l)
  unfolding Apart
  apart-added true m l new old (inl u) (inl v) e = refl
  apart-added true m l new old (inl u) (inr n) e = let h = new refl n in absurd (omega arith)
  apart-added true m l new old (inr n) (inl v) e = let h = new refl n in absurd (omega arith)
  apart-added true m l new old (inr n) (inr n') e = ap inr (old n n' e)
  apart-added false m l new old n n' e = old n n' e

module _ {X : Type 0} (L : Link X) (state : X → State) (Good : X → X → Type 0) (Right : X → Message L → Type 0) (shown : Shown L state Good Right) (z : X) where
  -- The sender: what it sent is as it seals, with COUNTs below its next one, no two alike.
  module _ (start : Good z z) where
    abbrev sender : List L.Seal → X
    sender l = sender_after L z l

    sender-good : (l : List L.Seal) → AllAllowed L l → Good z (sender l)
    sender-good [] h = start
    sender-good (s ∷ l) h = (shown.sends z (sender l) s (sender-good l h.1) h.0).good

    sends : (s : L.Seal) (l : List L.Seal) → AllAllowed L (s ∷ l) → Sends L state Good Right z (sender l) s
    sends s l h = shown.sends z (sender l) s (sender-good l h.1) h.0

    abbrev made : (s : L.Seal) (l : List L.Seal) → Message L
    made s l = let o = L.seal s (sender l) in record { seal = s; count = o.values.count; octets = written o }

    abbrev uses-one : (s : L.Seal) (l : List L.Seal) → Bool
    uses-one s l = (L.seal s (sender l)).values.uses

    right : (l : List L.Seal) → AllAllowed L l → (n : Place L (sent_by L z l)) → Right z (at L (sent_by L z l) n)
    right (s ∷ l) h n = each-added L (Right z) (uses-one s l) (made s l) (sent_by L z l) (λ e. ((sends s l h).sent e).2) (right l h.1) n
    right [] h n = elim n [ ]

    below : (l : List L.Seal) → AllAllowed L l → (n : Place L (sent_by L z l)) → (at L (sent_by L z l) n).count < (state (sender l)).at.next
    below (s ∷ l) h n = go (uses-one s l) refl (below l h.1) n
      where
        go : (b : Bool) → uses-one s l ≡ b → ((n : Place L (sent_by L z l)) → (at L (sent_by L z l) n).count < (state (sender l)).at.next)
            → (n : Place L (added L b (made s l) (sent_by L z l)))
            → (at L (added L b (made s l) (sent_by L z l)) n).count < (state (sender (s ∷ l))).at.next
        go true e old (inl u) = let q = (sends s l h).sent e in omega (arith, q.1)
        go true e old (inr n) = let q = (sends s l h).sent e in omega (arith, q.0, q.1, old n)
        go false e old n = let q = (sends s l h).refused e in omega (arith, q, old n)
    below [] h n = elim n [ ]

    apart : (l : List L.Seal) → AllAllowed L l → Apart L (sent_by L z l)
    unfolding Apart
    apart [] h = λ n n' e. absurd n
    apart (s ∷ l) h =
        apart-added L (uses-one s l) (made s l) (sent_by L z l)
        (λ e n. let q = (sends s l h).sent e in let b = below l h.1 n in omega (arith, q.0, b)) (apart l h.1)

  -- The receiver, from y on.
  module _ (y : X) (w : ℕ) (start : Good z y) (zero : (state y).at.next ≡ 0) (sized : (state y).size ≡ w)
      (sent : List (Message L)) (right : (n : Place L sent) → Right z (at L sent n)) (alone : NoOther L z sent) (apart : Apart L sent) where
    abbrev Arrivals : Type 0
    Arrivals = List (Arrival L sent)

    abbrev here : Arrivals → X
    here l = receiver_after L sent y l

    abbrev got : Arrivals → List ℕ
    got l = accepted L sent y l

    abbrev message : Arrival L sent → Message L
    message a = at L sent a.from

    good-now : (l : Arrivals) → Good z (here l)
    good-now [] = start
    good-now (a ∷ l) = (shown.takes z (here l) (message a) a.lent (good-now l) (right a.from) a.room).good

    takes : (a : Arrival L sent) (l : Arrivals) → TakesBy L state Good Right z (here l) (message a) a.lent
    takes a l = shown.takes z (here l) (message a) a.lent (good-now l) (right a.from) a.room

    abbrev found : Arrival L sent → Arrivals → Opening
    found a l = finds L state Good Right z (here l) (message a)

    -- the arrivals as acts on one record
    abbrev run : Arrivals → List Act
    run [] = []
    run (a ∷ l) = act_of false (found a l) ∷ run l

    state-now : (l : Arrivals) → after (state y) (run l) ≡ state (here l)
    state-now [] = refl
    state-now (a ∷ l) = ap (act (act_of false (found a l))) (state-now l) ∙ sym (takes a l).after

    fair : (l : Arrivals) → Fair (state y) (run l)
    fair [] = tt
    fair (a ∷ l) = (
      subst (Valid (act_of false (found a l))) (sym (state-now l)) (opening-valid 8 (L.fits z (message a)) (state (here l)) ((message a).count % 256)),
      fair l,
    )

    quiet : (l : Arrivals) → AllQuiet (run l)
    quiet [] = tt
    quiet (a ∷ l) = (found-quiet (found a l), quiet l)

    history-now : (l : Arrivals) → history (run l) ≡ got l
    history-now [] = refl
    history-now (a ∷ l) = let e = sym (takes a l).answers in let r = history-now l in λ i. e i ++ r i

    facts-now : (l : Arrivals) → Facts (state y) (run l)
    facts-now l = facts (state y) (λ c o. let u = to_clear (state y) c o in omega (arith, u.within.under, zero)) (run l) (fair l)

    next-now : (l : Arrivals) → (state (here l)).at.next ≡ next_of (got l)
    next-now l =
        ap (λ (s : State). s.at.next) (sym (state-now l)) ∙ next-is (state y) zero (run l) (fair l) (quiet l) ∙ ap next_of (history-now l)

    size-now : (l : Arrivals) → (state (here l)).size ≡ w
    size-now l = ap (λ (s : State). s.size) (sym (state-now l)) ∙ same_size (state y) zero (run l) (quiet l) ∙ sized

    under-now : (l : Arrivals) → (state (here l)).at.next ≤ exhausted
    under-now l = subst (λ (s : State). s.at.next ≤ exhausted) (state-now l) (next_under (state y) (omega (arith, zero)) (run l) (fair l))

    -- open late: not accepted, and inside the window
    open-iff : (l : Arrivals) (c : ℕ) → StillOpen (state y) (run l) c ↔ ((In c (got l) → ⊥) × Within (state (here l)) c)
    open-iff l c =
        subst (λ (s : State). StillOpen (state y) (run l) c ↔ ((In c (got l) → ⊥) × Within s c)) (state-now l)
        (subst (λ (u : List ℕ). StillOpen (state y) (run l) c ↔ ((In c u → ⊥) × Within (after (state y) (run l)) c)) (history-now l)
        (steady (state y) zero (run l) (fair l) (quiet l) c))

    -- what is taken is taken as its own COUNT
    own : (a : Arrival L sent) (l : Arrivals) (c : ℕ) → Takes (found a l) c → c ≡ (message a).count
    own a l c h =
        let f = L.fits z (message a) in
        let s = state (here l) in
        let o = (message a).count % 256 in
        alone a.from c (found-count f s o c (under-now l) h) (found-fits f s o c h)

    own-taken : (a : Arrival L sent) (l : Arrivals) (c : ℕ) → Takes (found a l) c → L.Accepted (message a) a.lent (here l)
    own-taken a l c h = (takes a l).accepts.0 (subst (Takes (found a l)) (own a l c h) h)

    abbrev said : Arrival L sent → Arrivals → List ℕ
    said b l = used_by (L.opens (message b) b.lent (here l)).values

    -- accepted before: by its messages, and by its COUNTs
    was-in : (l : Arrivals) (n : Place L sent) → WasAccepted L sent y n l → In (at L sent n).count (got l)
    was-in (b ∷ l) n (inl h) =
        let c = (message b).count in
        let i = subst (In c) (sym (takes b l).answers) (taken-used (found b l) c ((takes b l).accepts.1 h.1)) in
        subst (λ (n : Place L sent). In (at L sent n).count (got (b ∷ l))) h.0 (in-first c (said b l) (got l) i)
    was-in (b ∷ l) n (inr h) = in-second (at L sent n).count (said b l) (got l) (was-in l n h)
    was-in [] n x' = elim x' [ ]

    in-was : (l : Arrivals) (n : Place L sent) → In (at L sent n).count (got l) → WasAccepted L sent y n l
    unfolding Apart
    in-was (b ∷ l) n i =
        let c = (at L sent n).count in
        elim (in_either c (said b l) (got l) i) [
          | inl j ↦ let t = used-taken (found b l) c (subst (In c) (takes b l).answers j) in inl (apart b.from n (sym (own b l c t)), own-taken b l c t)
          | inr j ↦ inr (in-was l n j)
        ]
    in-was [] n i = elim i [ ]

    was-arrived : (l : Arrivals) (n : Place L sent) → WasAccepted L sent y n l → Arrived L sent y n l
    was-arrived (b ∷ l) n (inl h) = inl h.0
    was-arrived (b ∷ l) n (inr h) = inr (was-arrived l n h)
    was-arrived [] n x' = elim x' [ ]

    module _ (a : Arrival L sent) (l : Arrivals) where
      abbrev c : ℕ
      c = (message a).count

      abbrev next : ℕ
      next = next_of (got l)

      -- taken as its own: still open late, or ahead, where no other COUNT fits
      abbrev Due : State → Type 0
      Due s =
          StillOpen (state y) (run l) c
          ⊎ (Reach 8 s c × ((c' : ℕ) → StillOpen (state y) (run l) c' → c' % 256 ≡ c % 256 → L.fits z (message a) c' ≡ false))

      due : Takes (found a l) c ↔ Due (state (here l))
      due =
          subst (λ (s : State). s.size < 256 → Takes (opening 8 false (L.fits z (message a)) s.size s.at (c % 256)) c ↔ Due s) (state-now l)
          (λ small. (facts-now l).taken 8 (L.fits z (message a)) c small (takes a l).count (takes a l).own)
          (takes a l).small

      abbrev Near : Type 0
      Near = ((c < next) × (next ≤ c + 1 + w)) ⊎ ((next ≤ c) × (c < next + 256))

      to-near : Due (state (here l)) → Near
      to-near (inl o) =
          let i = ((open-iff l c).0 o).1 in
          let e = next-now l in
          let f = size-now l in
          inl (omega (arith, i.under, e), omega (arith, i.near, e, f))
      to-near (inr r) = let e = next-now l in inr (omega (arith, r.0.0, e), omega (arith, r.0.1, e))

      from-near : (In c (got l) → ⊥) → Near → Due (state (here l))
      from-near n (inl r) = go (le-or-lt next (c + 1))
        where
          go : (next ≤ c + 1) ⊎ (c + 1 < next) → Due (state (here l))
          go (inl s) = absurd (n (next-in (got l) c (omega (arith, r.0))))
          go (inr s) =
              let e = next-now l in
              let f = size-now l in
              inl ((open-iff l c).1 (n, record { under = omega (arith, s, e); near = omega (arith, r.1, e, f) }))
      from-near n (inr r) =
          let e = next-now l in
          inr (
            (omega (arith, r.0, e), omega (arith, r.1, e)),
            λ c' o q. not_so (L.fits z (message a) c') (λ f.
                let i = ((open-iff l c').0 o).1 in
                let u = under-now l in
                let s = alone a.from c' (omega (arith, i.under, u)) f in
                omega (arith, i.under, r.0, s, e)),
          )

      later : (WasAccepted L sent y a.from l → ⊥) → IsAccepted L sent y a l ↔ InReach w (got l) c
      later n =
          let near = reach-by w (got l) c in
          let t = (takes a l).accepts in (
            (λ h. near.0 (to-near (due.0 (t.1 h)))),
            λ r. t.0 (due.1 (from-near (λ i. n (in-was l a.from i)) (near.1 r))),
          )

      again : In c (got l) → Takes (found a l) c → ⊥
      again i t =
          let u = in-under (got l) c i in
          let e = next-now l in
          ⊎_elim (λ o. ((open-iff l c).0 o).0 i) (λ r. omega (arith, r.0.0, u, e)) (due.0 t)

      meet : Arrives L sent y w a l
      meet =
          record {
            once = λ h. (takes a l).refuses (λ c' t. again (was-in l a.from h) (subst (Takes (found a l)) (own a l c' t) t));
            first = λ n. later (λ h. n (was-arrived l a.from h));
            later = later;
            hands = λ c' u.
                let o = L.opens (message a) a.lent (here l) in
                let t = used-taken (found a l) c' (subst (In c') (takes a l).answers (uses-in o c' u)) in
                (own a l c' t, own-taken a l c' t);
            either = ⊎_elim (λ t. inl (own-taken a l t.0 t.1)) (λ n. inr ((takes a l).refuses n)) (taken-or-not (found a l));
          }

pub ends-meet : EndsMeet
ends-meet X L state Good Right shown z x z-fresh x-fresh same w set seals allowed alone a l =
    let g = shown.sender z z-fresh in
    let r = shown.receiver z x w x-fresh same set in
    meet L state Good Right shown z (L.window w x).context w r.0 r.1 r.2 (sent_by L z seals)
    (right L state Good Right shown z g seals allowed) alone (apart L state Good Right shown z g seals allowed) a l
