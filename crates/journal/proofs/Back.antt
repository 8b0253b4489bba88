-- What was written reads back, with damage between.
use mathlib.Core.Path.{◌≡◌, refl, ap, sym, ◌∙◌}
use mathlib.Core.Bool.{Bool, true, false, not, ◌&&◌}
use mathlib.Core.List.{List, [], ◌∷◌, ◌++◌, append_assoc, append-nil}
use Prim.Native.Nat.{ℕ, zero, suc, ◌+◌, ◌-◌, ◌≤◌, ◌<◌}
use native.Mathlib.Nat.{div-add-mod'}
use native.Mathlib.Omega.{arith}
use lib.Dec.{eqb}
use lib.ListN.{length, get_or, take, drop, length-append, length-drop}
use lib.Seq.{take-append_seam, drop-append_seam}
use borrow.Author.Tests.{le-leb, leb-true, eq-eqb, ne_eqb}
use Rattle.journal.specs.Records.{is_allowed, most, size_at, well_formed, head_of, record_of}
use Rattle.journal.specs.Items.{Item, call, skipped, items}
use Rattle.journal.specs.Laws.{stops, Next, are_written, records, calls, markless, Back}
use Rattle.journal.proofs.Known.{by, both, stands}
use Rattle.journal.proofs.Reading.{at-record, at-damage, sentence}

-- one record
module _ (kind : ℕ) (b l : List ℕ) where
  size : size_at (record_of kind b ++ l) ≡ length b
  unfolding size_at record_of head_of
  size = div-add-mod' (length b) 256

  formed : is_allowed kind (length b) ≡ true → length b ≤ most → well_formed (record_of kind b ++ l) ≡ true
  unfolding well_formed record_of head_of
  formed a h =
      let long : 5 + length b ≤ suc (suc (suc (suc (suc (length (b ++ l)))))) = simp length-append (omega arith) in
      simp (size, a, le-leb _ _ h, le-leb _ _ long)

  one : is_allowed kind (length b) ≡ true → length b ≤ most → items (record_of kind b ++ l) ≡ call kind b ∷ items l
  unfolding items record_of head_of
  one a h =
      let x = record_of kind b ++ l in
      let five : 5 + length b ≡ suc (suc (suc (suc (suc (length b))))) = omega arith in
      at-record 0 x (formed a h)
      ∙ ap (λ (n : ℕ). call kind (take n (b ++ l)) ∷ items (drop (5 + n) x)) size
      ∙ ap (λ (n : ℕ). call kind (take (length b) (b ++ l)) ∷ items (drop n x)) five
      ∙ ap (λ (t : List ℕ). call kind t ∷ items (drop (length b) (b ++ l))) (take-append_seam b l)
      ∙ ap (λ (t : List ℕ). call kind b ∷ items t) (drop-append_seam b l)

-- what are_written says of the first call and of the others
first : (c : ℕ × List ℕ) (cs : List (ℕ × List ℕ)) → are_written (c ∷ cs) ≡ true
    → (is_allowed c.0 (length c.1) ≡ true) × (length c.1 ≤ most) × (are_written cs ≡ true)
first c cs e =
    let a = both _ _ e in let b = both _ _ a.0 in (b.0, leb-true _ _ b.1, a.1)

back : (cs : List (ℕ × List ℕ)) (l : List ℕ) → are_written cs ≡ true → items (records cs ++ l) ≡ calls cs ++ items l
back [] l e = refl
back (c ∷ cs) l e =
    let f = first c cs e in
    ap items (append_assoc (record_of c.0 c.1) (records cs) l)
    ∙ one c.0 c.1 (records cs ++ l) f.0 f.1
    ∙ ap (λ (is : List Item). call c.0 c.1 ∷ is) (back cs l f.2)

alone : (cs : List (ℕ × List ℕ)) → are_written cs ≡ true → items (records cs) ≡ calls cs
alone cs e =
    ap items (sym (append-nil (records cs)))
    ∙ back cs [] e
    ∙ ap (λ (is : List Item). calls cs ++ is) sentence.reads.at-end
    ∙ append-nil (calls cs)

-- damage in front of what stops
module _ (d l : List ℕ) (some : 1 ≤ length d) (free : (i : ℕ) → i < length d → well_formed (drop i (d ++ l)) ≡ false) (ends : stops l ≡ true) where
  goes : (i : ℕ) → i < length d → stops (drop i (d ++ l)) ≡ false
  unfolding stops
  goes i h =
      let n : length (drop i (d ++ l)) ≡ 0 → ⊥ = λ e. (let f : length (drop i (d ++ l)) ≡ length d + length l - i = simp (length-drop, length-append) in omega arith) in
      simp (free i h, ne_eqb _ _ n)

  rest : drop (length d) (d ++ l) ≡ l
  rest = drop-append_seam d l

  past : Next (d ++ l) (length d)
  past = record { some = some; found = ap stops rest ∙ ends; least = λ m h g. goes m g }

  skip : items (d ++ l) ≡ skipped (length d) ∷ items l
  skip = at-damage (d ++ l) (length d) (goes 0 some) past ∙ ap (λ (t : List ℕ). skipped (length d) ∷ items t) rest

between : (cs : List (ℕ × List ℕ)) (d l : List ℕ) → are_written cs ≡ true → 1 ≤ length d
    → ((i : ℕ) → i < length d → well_formed (drop i (d ++ l)) ≡ false) → stops l ≡ true
    → items (records cs ++ (d ++ l)) ≡ calls cs ++ (skipped (length d) ∷ items l)
between cs d l e h f s = back cs (d ++ l) e ∙ ap (λ (is : List Item). calls cs ++ is) (skip d l h f s)

no-and : (a : Bool) → not (a && false) ≡ true
no-and true = refl
no-and false = refl

-- no mark, no record
unmarked-at : (a : ℕ) (l : List ℕ) → not (eqb a 0x4E && eqb (get_or l 0 0) 0x53) ≡ true → well_formed (a ∷ l) ≡ false
unmarked-at a l e =
    by (well_formed (a ∷ l))
    (λ w.
    let s = stands (a ∷ l) w in
    absurd (let f : ◌≡◌ {A = Bool} false true = simp (eq-eqb _ _ s.first, eq-eqb _ _ s.second) at e in let z : ◌≡◌ {A = ℕ} 0 1 = cc in omega arith))
    (λ w. w)

unmarked : (d l : List ℕ) (i : ℕ) → markless d ≡ true → (get_or l 0 0 ≡ 0x53 → ⊥) → i < length d → well_formed (drop i (d ++ l)) ≡ false
unmarked [] l i m n h = absurd (omega arith)
unmarked (a ∷ []) l zero m n h = unmarked-at a l (simp (ne_eqb _ _ n) (no-and (eqb a 0x4E)))
unmarked (a ∷ []) l (suc i) m n h = absurd (omega arith)
unmarked (a ∷ b ∷ d) l zero m n h = unmarked-at a (b ∷ (d ++ l)) (both (not (eqb a 0x4E && eqb b 0x53)) (markless (b ∷ d)) m).0
unmarked (a ∷ b ∷ d) l (suc i) m n h = unmarked (b ∷ d) l i (both (not (eqb a 0x4E && eqb b 0x53)) (markless (b ∷ d)) m).1 n (omega arith)

-- a journal that was written stops there, and begins with no 53
begins : (es : List (ℕ × List ℕ)) → get_or (records es) 0 0 ≡ 0x53 → ⊥
unfolding record_of head_of
begins [] e = omega arith
begins (c ∷ es) e = omega arith

halts : (es : List (ℕ × List ℕ)) → are_written es ≡ true → stops (records es) ≡ true
unfolding stops well_formed
halts [] e = refl
halts (c ∷ es) e = let f = first c es e in simp (formed c.0 c.1 (records es) f.0 f.1)

pub written : (cs : List (ℕ × List ℕ)) → are_written cs ≡ true → Back cs
written cs e =
    record {
      back = λ l. back cs l e;
      alone = alone cs e;
      between = λ d l. between cs d l e;
      unmarked = λ d es h m w.
          between cs d (records es) e h (λ i. unmarked d (records es) i m (begins es)) (halts es w)
          ∙ ap (λ (is : List Item). calls cs ++ (skipped (length d) ∷ is)) (alone es w);
    }
