-- A toy link, small enough to compute with: a context is one record, a message is three octets, the last octet of its COUNT, a code, and an octet of data.
-- `code` says which code a COUNT and data have, `find` which COUNT a receiver takes a message as. Of it are stated: where two ends fail without the premise on codes
-- ("a worked pair of codes over a toy code function"), and that the statement rules out receivers that go further than ours. docs/TWO-ENDS.md draws the first.
use Rattle.std.specs.Prelude.{ℕ, ◌+◌, ◌/◌, ◌%◌, ◌≡◌, Bool, true, false, cond, ◌&&◌, ◌⊎◌, List, [], ◌∷◌, eqb, ltb, leb, get_or, drop, Ok, Err}
use Rattle.count.specs.Rule.{Opening, exhausted, opening}
use Rattle.count.specs.declared.Taken.TheVariants.{Late, Forward}
use Rattle.count.specs.declared.Missed.TheVariants.{NoCandidate, WrongCode}
use Rattle.count.specs.Run.{State, uses, resize, forward, late, act}
use Rattle.nas_core.specs.Leaves.{Values, refusal, success}
use Rattle.promise.specs.Outcomes.{Outcome, Uses, TakenAs}
use Rattle.promise.specs.TwoEnds.{Link, Meet, TwoEnds}

-- a COUNT used, and so many octets written
abbrev pub used_one : ℕ → ℕ → Values
used_one c w = record { refused = false; number = 0; uses = true; count = c; distance = 0; wrote = w; second = 0; header = 0; carried = 0; octet = 0 }

-- fresh: next COUNT 0, size 0; and with its window set
abbrev pub fresh : State
fresh = record { size = 0; at = record { next = 0; bits = 0 } }

abbrev pub set_to : ℕ → State
set_to w = act (resize w) fresh

-- a window size above 64 is refused
abbrev pub toy_window : ℕ → State → Outcome State
toy_window w s =
    cond (leb w 64) (record { values = success; context = act (resize w) s; output = [] }) (record { values = refusal 14; context = s; output = [] })

-- what the receiver leaves: the data is handed over in the one octet lent, which was 0
abbrev pub toy_left : List ℕ → State → Opening → Outcome State
toy_left m s (Ok (Late c)) = record { values = used_one c 1; context = act (uses late c) s; output = drop 2 m }
toy_left m s (Ok (Forward c)) = record { values = used_one c 1; context = act (uses forward c) s; output = drop 2 m }
toy_left m s (Err NoCandidate) = record { values = refusal 6; context = s; output = 0 ∷ [] }
toy_left m s (Err WrongCode) = record { values = refusal 7; context = s; output = 0 ∷ [] }

module _ (code : ℕ → ℕ → ℕ) where
  -- the message for COUNT c that carries v
  abbrev pub octets_of : ℕ → ℕ → List ℕ
  octets_of c v = c % 256 ∷ code c v ∷ v ∷ []

  abbrev pub toy_seal : ℕ → State → Outcome State
  toy_seal v s =
      let c = s.at.next in
      cond (ltb c exhausted)
      (record { values = used_one c 3; context = act (uses forward c) s; output = octets_of c v })
      (record { values = refusal 6; context = s; output = [] })

  -- the code of a message fits COUNT c
  abbrev pub toy_fits : List ℕ → ℕ → Bool
  toy_fits m c = eqb (code c (get_or m 2 0)) (get_or m 1 0)

  module _ (find : (ℕ → Bool) → State → ℕ → Opening) where
    abbrev pub toy_open : List ℕ → State → Outcome State
    toy_open m s = toy_left m s (find (toy_fits m) s (get_or m 0 0))

    abbrev pub toy : Link State
    toy =
        record {
          Fresh = λ s. s ≡ fresh;
          SameKeys = λ z x. Unit {0};
          window = toy_window;
          Seal = ℕ;
          seal = toy_seal;
          Allowed = λ v. Unit {0};
          fits = λ z m c. toy_fits m.octets c;
          Lent = Unit {0};
          Room = λ m r. Unit {0};
          opens = λ m r s. toy_open m.octets s;
          Accepted = λ m r s. TakenAs (toy_open m.octets s) m.count (m.seal ∷ []) (0 ∷ []);
          Refused = λ m r s.
              let o = toy_open m.octets s in ((o.values ≡ refusal 6) ⊎ (o.values ≡ refusal 7)) × (o.context ≡ s) × (o.output ≡ 0 ∷ []);
        }

-- the receiver that goes by the COUNT rule
abbrev pub by_rule : (ℕ → Bool) → State → ℕ → Opening
by_rule fits s o = opening 8 false fits s.size s.at o

-- A code that does not look at bit 8 of the COUNT.
abbrev pub blind : ℕ → ℕ → ℕ
blind c v = (c / 512 + v) % 256

-- 10 was sealed under COUNT 0, 20 under COUNT 256. The last octet of both COUNTs is 0.
abbrev pub ten : List ℕ
ten = 0 ∷ 10 ∷ 10 ∷ []

abbrev pub twenty : List ℕ
twenty = 0 ∷ 20 ∷ 20 ∷ []

-- A receiver with window 8 gets the message of COUNT 5 first: 0 to 4 are open late.
abbrev pub got5 : State
got5 = (toy_open blind by_rule (octets_of blind 5 0) (set_to 8)).context

abbrev pub got_twenty : State
got_twenty = (toy_open blind by_rule twenty got5).context

pub record Toy : Type 0 where
  -- the pair of messages, and the codes: that of the second fits both COUNTs
  pub first : octets_of blind 0 10 ≡ ten
  pub second : octets_of blind 256 20 ≡ twenty
  pub fits-own : toy_fits blind twenty 256 ≡ true
  pub fits-other : toy_fits blind twenty 0 ≡ true
  -- the run: 20, sealed under COUNT 256, is handed over under COUNT 0; and then 10, sealed under COUNT 0, under COUNT 256
  pub taken-as-first : Uses (toy_open blind by_rule twenty got5) 0 × ((toy_open blind by_rule twenty got5).output ≡ 20 ∷ [])
  pub taken-as-second : Uses (toy_open blind by_rule ten got_twenty) 256 × ((toy_open blind by_rule ten got_twenty).output ≡ 10 ∷ [])
  -- so without the premise the ends do not meet; with it they do
  pub without : Meet (toy blind by_rule) (λ z sent. Unit {0}) → ⊥
  pub meets : TwoEnds (toy blind by_rule)

-- A code that tells all COUNTs apart: then the premise holds. Receivers that go further than the COUNT rule:
abbrev pub plain : ℕ → ℕ → ℕ
plain c v = c

-- one more below
abbrev pub opening_one_below : (ℕ → Bool) → State → ℕ → Opening
opening_one_below fits s o = opening 8 false fits (s.size + 1) s.at o

-- 256 above the next COUNT too
abbrev pub one_above : (ℕ → Bool) → State → ℕ → Opening
one_above fits s o = let c = s.at.next + 256 in cond (fits c) (Ok (Forward c)) (by_rule fits s o)

-- a COUNT below the next one again, where it is its own last octet
abbrev pub again : (ℕ → Bool) → State → ℕ → Opening
again fits s o = cond (ltb o s.at.next && fits o) (Ok (Late o)) (by_rule fits s o)

pub record Tight : Type 0 where
  pub by-rule : TwoEnds (toy plain by_rule)
  pub one_below : TwoEnds (toy plain opening_one_below) → ⊥
  pub one-above : TwoEnds (toy plain one_above) → ⊥
  pub twice : TwoEnds (toy plain again) → ⊥
