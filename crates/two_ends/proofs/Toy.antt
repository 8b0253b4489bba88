-- The toy link.
use Rattle.std.specs.Prelude.{Ok, Err}
use Prim.Native.Nat.{ℕ, zero, suc, ◌+◌, ◌%◌, ◌≤◌, ◌<◌}
use mathlib.Core.Path.{◌≡◌, refl, sym, ap, ◌∙◌, subst}
use mathlib.Core.Bool.{Bool, true, false, cond}
use mathlib.Core.Logic.{◌⊎◌, inl, inr, ⊎_elim, ◌↔◌}
use mathlib.Core.List.{List, [], ◌∷◌, ◌++◌}
use native.Mathlib.Omega.{arith}
use lib.Dec.{eqb, ltb, leb}
use lib.ListN.{drop}
use borrow.Author.Tests.{eqb-true, eq-eqb, lt-ltb, ltb-true, leb-true}
use Rattle.count.specs.Rule.{Opening, exhausted, bit, distance, forward_of, open_at, late_of, opening, former_highest, use_forward, use_late, resize_of}
use Rattle.count.specs.declared.Taken.TheVariants.{Late, Forward}
use Rattle.count.specs.declared.Missed.TheVariants.{NoCandidate, WrongCode}
use Rattle.count.specs.Run.{State, uses, forward, resize, act, act_of, used}
use Rattle.count.proofs.Candidates.{clash}
use Rattle.count.proofs.Distance.{le-or-lt}
use Rattle.count.specs.Facts.{Takes}
use Rattle.nas_core.specs.Leaves.{Values, refusal, success}
use Rattle.promise.specs.Outcomes.{Outcome, used_by, Succeeds, TakenAs, written}
use Rattle.promise.specs.TwoEnds.{Sent, Link, InReach, sender_after, sent_by, AllAllowed, Place, at, NoOther, Arrival, Arrives, Meet, TwoEnds}
use Rattle.promise.specs.Ends.{Sends, TakesBy, Shown}
use Rattle.promise.proofs.Ends.{each-added, ends-meet}
use Rattle.two_ends.specs.Toy.{used_one, fresh, octets_of, toy_fits, toy_seal, toy_left, toy_open, toy_window, toy, by_rule, blind, Toy, plain, opening_one_below, one_above, again, Tight}

module _ (code : ℕ → ℕ → ℕ) (find : (ℕ → Bool) → State → ℕ → Opening) where
  abbrev L : Link State
  L = toy code find

  -- The sender seals f 0 under COUNT 0, f 1 under 1, and so on.
  module _ (f : ℕ → ℕ) where
    abbrev values : ℕ → List ℕ
    values zero = []
    values (suc n) = f n ∷ values n

    abbrev sent : ℕ → List (Sent ℕ)
    sent n = sent_by L fresh (values n)

    abbrev made : ℕ → Sent ℕ
    made c = record { seal = f c; count = c; octets = octets_of code c (f c) }

    allowed : (n : ℕ) → AllAllowed L (values n)
    allowed zero = tt
    allowed (suc n) = (tt, allowed n)

    abbrev sealed : ℕ → State → Outcome State
    sealed n s = record { values = used_one n 3; context = act (uses forward n) s; output = octets_of code n (f n) }

    seals : (n : ℕ) (s : State) → s.at.next ≡ n → n < exhausted → toy_seal code (f n) s ≡ sealed n s
    seals n s e h = rw (e, lt-ltb n exhausted h) refl

    next-is : (n : ℕ) → n ≤ exhausted → (sender_after L fresh (values n)).at.next ≡ n
    unfolding use_forward
    next-is zero h = refl
    next-is (suc n) h =
        let q : n + 1 ≡ suc n = omega arith in
        let s = sender_after L fresh (values n) in
        ap (λ (o : Outcome State). o.context.at.next) (seals n s (next-is n (omega arith)) (omega arith)) ∙ q

    seals-next : (n : ℕ) → suc n ≤ exhausted → toy_seal code (f n) (sender_after L fresh (values n)) ≡ sealed n (sender_after L fresh (values n))
    seals-next n h = seals n (sender_after L fresh (values n)) (next-is n (omega arith)) (omega arith)

    -- what is sent, when one message more is
    abbrev more : ℕ → Outcome State → List (Sent ℕ)
    more n o = cond o.values.uses (record { seal = f n; count = o.values.count; octets = written o } ∷ sent n) (sent n)

    -- the message for COUNT c is among them
    abbrev There : List (Sent ℕ) → ℕ → Type 0
    There l c = (n : Place L l) × (at L l n ≡ made c)

    there : (n c : ℕ) → c < n → n ≤ exhausted → There (sent n) c
    there zero c h l = absurd (omega arith)
    there (suc n) c h l =
        let rest : c < n → There (sent n) c = λ q. there n c q (omega arith) in
        subst (λ (o : Outcome State). There (more n o) c) (sym (seals-next n l)) (go (le-or-lt n c) rest)
      where
        go : (n ≤ c) ⊎ (c < n) → (c < n → There (sent n) c) → There (made n ∷ sent n) c
        go (inl q) rest = let e : n ≡ c = omega arith in subst (There (made n ∷ sent n)) e (inl tt, refl)
        go (inr q) rest = let r = rest q in (inr r.0, r.1)

    -- One that arrives first, after another, again.
    module _ (n : ℕ) (low : n ≤ exhausted) (P : State → List (Sent ℕ) → Type 0) (meet : Meet L P) (premise : P fresh (sent n)) (w : ℕ)
        (set : Succeeds (toy_window w fresh)) where
      abbrev opens : ℕ → State → Outcome State
      opens c s = toy_open code find (octets_of code c (f c)) s

      abbrev Takes-it : ℕ → State → Type 0
      Takes-it c s = TakenAs (opens c s) c (f c ∷ []) (0 ∷ [])

      abbrev y : State
      y = (toy_window w fresh).context

      arrives : (a : Arrival L (sent n)) (l : List (Arrival L (sent n))) → Arrives L (sent n) y w a l
      arrives a l = meet fresh fresh refl refl tt w set (values n) (allowed n) premise a l

      abbrev arrival : (c : ℕ) → c < n → Arrival L (sent n)
      arrival c h = record { from = (there n c h low).0; lent = tt; room = tt }

      is : (c : ℕ) (h : c < n) → at L (sent n) (arrival c h).from ≡ made c
      is c h = (there n c h low).1

      abbrev Says : State → List ℕ → Sent ℕ → Type 0
      Says s l m = TakenAs (toy_open code find m.octets s) m.count (m.seal ∷ []) (0 ∷ []) ↔ InReach w l m.count

      comes-first : (c : ℕ) → c < n → Takes-it c y ↔ InReach w [] c
      comes-first c h = subst (Says y []) (is c h) ((arrives (arrival c h) []).first (λ z. z))

      comes-after : (b c : ℕ) → b < n → c < n → (b ≡ c → ⊥) → Takes-it c (opens b y).context ↔ InReach w (used_by (opens b y).values ++ []) c
      comes-after b c g h apart =
          let count_of : Sent ℕ → ℕ = λ m. m.count in
          let other : (arrival b g).from ≡ (arrival c h).from → ⊥ =
          λ e. apart (sym (ap count_of (is b g)) ∙ ap (λ (p : Place L (sent n)). (at L (sent n) p).count) e ∙ ap count_of (is c h)) in
          subst (λ (m : Sent ℕ). Says (toy_open code find m.octets y).context (used_by (toy_open code find m.octets y).values ++ []) (made c)) (is b g)
          (subst (λ (m : Sent ℕ).
          let o = toy_open code find (at L (sent n) (arrival b g).from).octets y in Says o.context (used_by o.values ++ []) m) (is c h)
          ((arrives (arrival c h) (arrival b g ∷ [])).first (⊎_elim other (λ z. z))))

      comes-again : (c : ℕ) → c < n → Takes-it c y
          → let v = (opens c (opens c y).context).values in (v ≡ refusal 6) ⊎ (v ≡ refusal 7)
      comes-again c h t =
          let once : (m : Sent ℕ) → at L (sent n) (arrival c h).from ≡ m
          → TakenAs (toy_open code find m.octets y) m.count (m.seal ∷ []) (0 ∷ [])
          → let v = (toy_open code find m.octets (toy_open code find m.octets y).context).values in (v ≡ refusal 6) ⊎ (v ≡ refusal 7) =
          λ m e.
          subst
          (λ (m : Sent ℕ).
          TakenAs (toy_open code find m.octets y) m.count (m.seal ∷ []) (0 ∷ [])
          → let v = (toy_open code find m.octets (toy_open code find m.octets y).context).values in (v ≡ refusal 6) ⊎ (v ≡ refusal 7))
          e (λ t. ((arrives (arrival c h) (arrival c h ∷ [])).once (inl (refl, t))).0) in
          once (made c) (is c h) t

-- the plain code fits its own COUNT alone
module _ (find : (ℕ → Bool) → State → ℕ → Opening) (f : ℕ → ℕ) where
  abbrev Alone : Sent ℕ → Type 0
  Alone m = (c : ℕ) → c < exhausted → toy_fits plain m.octets c ≡ true → c ≡ m.count

  none_other : (n : ℕ) → n ≤ exhausted → NoOther (toy plain find) fresh (sent plain find f n)
  none_other zero h = λ p. absurd p
  none_other (suc n) h =
      let s = sender_after (toy plain find) fresh (values plain find f n) in
      let o = toy_seal plain (f n) s in
      each-added (toy plain find) Alone o.values.uses (record { seal = f n; count = o.values.count; octets = written o }) (sent plain find f n)
      (λ e. subst (λ (o : Outcome State). Alone (record { seal = f n; count = o.values.count; octets = written o })) (sym (seals-next plain find f n h))
      (λ c u q. eqb-true c n q))
      (none_other n (omega arith))

-- By the COUNT rule the ends meet, whatever the code.
module _ (code : ℕ → ℕ → ℕ) where
  Right : State → Sent ℕ → Type 0
  Right z m = (m.count < exhausted) × (m.octets ≡ octets_of code m.count m.seal)

  Small : State → State → Type 0
  Small z s = s.size ≤ 64

  sends : (z s : State) (v : ℕ) → Small z s → Sends (toy code by_rule) (λ s. s) Small Right z s v
  unfolding Right Small use_forward
  sends z s v small =
      let q = go (ltb c exhausted) refl in record { good = q.0; refused = q.1; sent = q.2 }
    where
      c : ℕ
      c = s.at.next

      go : (b : Bool) → ltb c exhausted ≡ b
          → let o : Outcome State =
          cond b (record { values = used_one c 3; context = act (uses forward c) s; output = octets_of code c v })
          (record { values = refusal 6; context = s; output = [] }) in
          Small z o.context × (o.values.uses ≡ false → o.context.at.next ≡ c)
          × (o.values.uses ≡ true
          → (c ≤ o.values.count) × (o.context.at.next ≡ o.values.count + 1) × Right z (record { seal = v; count = o.values.count; octets = written o }))
      go true e = (small, (λ u. clash refl u), λ u. (omega arith, refl, (ltb-true c exhausted e, refl)))
      go false e = (small, (λ u. refl), λ u. clash u refl)

  receiver : (z x : State) (w : ℕ) → x ≡ fresh → Succeeds (toy_window w x)
      → let y = (toy_window w x).context in Small z y × (y.at.next ≡ 0) × (y.size ≡ w)
  unfolding Small resize_of
  receiver z x w e set = go (leb w 64) refl set
    where
      go : (b : Bool) → leb w 64 ≡ b
          → let o : Outcome State =
          cond b (record { values = success; context = act (resize w) x; output = [] }) (record { values = refusal 14; context = x; output = [] }) in
          Succeeds o → Small z o.context × (o.context.at.next ≡ 0) × (o.context.size ≡ w)
      go true q set = (leb-true w 64 q, ap (λ (s : State). s.at.next) e, refl)
      go false q set = absurd (omega (arith, set))

  module _ (m : List ℕ) (s : State) where
    left_after : (o : Opening) → (toy_left m s o).context ≡ act (act_of false o) s
    left_after (Ok (Late c)) = refl
    left_after (Ok (Forward c)) = refl
    left_after (Err NoCandidate) = refl
    left_after (Err WrongCode) = refl

    left-small : (o : Opening) → (toy_left m s o).context.size ≡ s.size
    left-small (Ok (Late c)) = refl
    left-small (Ok (Forward c)) = refl
    left-small (Err NoCandidate) = refl
    left-small (Err WrongCode) = refl

    left-answers : (o : Opening) → used_by (toy_left m s o).values ≡ used (act_of false o)
    left-answers (Ok (Late c)) = refl
    left-answers (Ok (Forward c)) = refl
    left-answers (Err NoCandidate) = refl
    left-answers (Err WrongCode) = refl

    left-takes : (v c : ℕ) → drop 2 m ≡ v ∷ [] → (o : Opening) → Takes o c → TakenAs (toy_left m s o) c (v ∷ []) (0 ∷ [])
    left-takes v c q o (inl e) = rw e record { uses = refl; count = refl; number = inl refl; wrote = refl; hands = q }
    left-takes v c q o (inr e) = rw e record { uses = refl; count = refl; number = inl refl; wrote = refl; hands = q }

    left-taken : (v c : ℕ) (o : Opening) → TakenAs (toy_left m s o) c (v ∷ []) (0 ∷ []) → Takes o c
    left-taken v c (Ok (Late c')) t = inl (ap (λ (n : ℕ). Ok (Late n)) t.count)
    left-taken v c (Ok (Forward c')) t = inr (ap (λ (n : ℕ). Ok (Forward n)) t.count)
    left-taken v c (Err NoCandidate) t = let u = t.uses in let z : ◌≡◌ {A = ℕ} 0 1 = cc in absurd (omega arith)
    left-taken v c (Err WrongCode) t = let u = t.uses in let z : ◌≡◌ {A = ℕ} 0 1 = cc in absurd (omega arith)

    abbrev LeftAlone : Opening → Type 0
    LeftAlone o =
        let t = toy_left m s o in ((t.values ≡ refusal 6) ⊎ (t.values ≡ refusal 7)) × (t.context ≡ s) × (t.output ≡ 0 ∷ [])

    left_alone : (o : Opening) → ((c : ℕ) → Takes o c → ⊥) → LeftAlone o
    left_alone (Ok (Late c)) n = absurd (n c (inl refl))
    left_alone (Ok (Forward c)) n = absurd (n c (inr refl))
    left_alone (Err NoCandidate) n = (inl refl, refl, refl)
    left_alone (Err WrongCode) n = (inr refl, refl, refl)

  takes-made : (z s : State) (v c : ℕ) (r : Unit {0}) → Small z s → c < exhausted
      → TakesBy (toy code by_rule) (λ s. s) Small Right z s (record { seal = v; count = c; octets = octets_of code c v }) r
  unfolding Small
  takes-made z s v c r small low =
      let m = octets_of code c v in
      let o = by_rule (toy_fits code m) s (c % 256) in
      record {
        count = low;
        own = eq-eqb (code c v) (code c v) refl;
        small = omega arith;
        good = rw (left-small m s o) small;
        after = left_after m s o;
        answers = left-answers m s o;
        accepts = (left-takes m s v c refl o, left-taken m s v c o);
        refuses = left_alone m s o;
      }

  shown : Shown (toy code by_rule) (λ s. s) Small Right
  unfolding Right Small
  shown =
      record {
        sender = λ z e. rw e (omega arith);
        receiver = λ z x w e same set. receiver z x w e set;
        sends = λ z s v g a. sends z s v g;
        takes = λ z s m r g right room.
            subst (λ (n : Sent ℕ). TakesBy (toy code by_rule) (λ s. s) Small Right z s n r)
            (λ i. record { seal = m.seal; count = m.count; octets = sym right.1 i }) (takes-made z s m.seal m.count r g right.0);
      }

  rule-meets : TwoEnds (toy code by_rule)
  rule-meets = ends-meet State (toy code by_rule) (λ s. s) Small Right shown

-- 10 under COUNT 0, 20 under COUNT 256
sealed_as : ℕ → ℕ
sealed_as c = cond (eqb c 0) 10 (cond (eqb c 256) 20 0)

pub toy-fails : Toy
unfolding sealed_as opening forward_of late_of open_at bit distance use_forward use_late former_highest resize_of
toy-fails =
    record {
      first = refl;
      second = refl;
      fits-own = refl;
      fits-other = refl;
      taken-as-first = ((refl, refl), refl);
      taken-as-second = ((refl, refl), refl);
      without = λ h.
          let says = comes-after blind by_rule sealed_as 257 (omega arith) (λ z sent. Unit {0}) h tt 8 refl 5 256 (omega arith) (omega arith) (λ e. omega arith) in
          let t = says.1 (inr (omega arith, omega arith)) in
          let z = t.count in omega (arith, z);
      meets = rule-meets blind;
    }

pub tight : Tight
unfolding opening forward_of late_of open_at bit distance use_forward use_late former_highest resize_of
tight =
    record {
      by-rule = rule-meets plain;
      one_below = λ h.
          let says = comes-after plain opening_one_below (λ c. 0) 2 (omega arith) (NoOther (toy plain opening_one_below)) h (none_other opening_one_below (λ c. 0) 2 (omega arith)) 0 refl 1 0
          (omega arith) (omega arith) (λ e. omega arith) in
          ⊎_elim (λ r. omega (arith, r.1)) (λ r. omega (arith, r.0)) (says.0 record { uses = refl; count = refl; number = inl refl; wrote = refl; hands = refl });
      one-above = λ h.
          let says = comes-first plain one_above (λ c. 0) 257 (omega arith) (NoOther (toy plain one_above)) h (none_other one_above (λ c. 0) 257 (omega arith)) 0 refl 256
          (omega arith) in
          let z = says.0 record { uses = refl; count = refl; number = inl refl; wrote = refl; hands = refl } in omega (arith, z);
      twice = λ h.
          let says = comes-again plain again (λ c. 0) 1 (omega arith) (NoOther (toy plain again)) h (none_other again (λ c. 0) 1 (omega arith)) 0 refl 0 (omega arith)
          record { uses = refl; count = refl; number = inl refl; wrote = refl; hands = refl } in
          ⊎_elim (λ e. let z = ap (λ (v : Values). v.number) e in omega (arith, z)) (λ e. let z = ap (λ (v : Values). v.number) e in omega (arith, z)) says;
    }
