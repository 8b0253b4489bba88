-- Reading from a position on: past a record, and past octets that are none. No second function reads so.
use mathlib.Core.Path.{◌≡◌, refl, ap, sym, ◌∙◌}
use mathlib.Core.Bool.{Bool, true, false, cond}
use mathlib.Core.List.{List, [], ◌∷◌}
use Prim.Native.Nat.{ℕ, zero, suc, ◌+◌, ◌≤◌, ◌<◌}
use native.Mathlib.Nat.{add-zero}
use native.Mathlib.Omega.{arith}
use lib.Dec.{leb, eqb-suc-zero}
use lib.ListN.{length, drop, length-drop}
use borrow.Author.Tests.{leb-true, leb-false}
use Rattle.journal.specs.Records.{size_at, well_formed}
use Rattle.journal.specs.Items.{Item, skipped, call_at, after, items_from, items}
use Rattle.journal.specs.Laws.{stops, Next, Reads, Sentence}
use Rattle.journal.proofs.Known.{by, stands}

-- octets that are part of a record
pub past : (j k : ℕ) (l : List ℕ) → items_from j k l ≡ items_from 0 k (drop j l)
unfolding items_from
past zero k [] = refl
past zero k (o ∷ l) = refl
past (suc j) k [] = refl
past (suc j) k (o ∷ l) = past j k l

-- a record
pub at-record : (k : ℕ) (l : List ℕ) → well_formed l ≡ true → items_from 0 k l ≡ after k (call_at l ∷ items (drop (5 + size_at l) l))
unfolding items_from items
at-record k [] e = absurd (omega (arith, (stands [] e).whole))
at-record k (o ∷ l) e =
    let n : 5 + size_at (o ∷ l) ≡ suc (4 + size_at (o ∷ l)) = omega arith in
    simp e
    (ap (λ (is : List Item). after k (call_at (o ∷ l) ∷ is))
    (past (4 + size_at (o ∷ l)) 0 l ∙ ap (λ (m : ℕ). items_from 0 0 (drop m (o ∷ l))) (sym n)))

-- no record
pub one_more : (k o : ℕ) (l : List ℕ) → well_formed (o ∷ l) ≡ false → items_from 0 k (o ∷ l) ≡ items_from 0 (suc k) l
unfolding items_from
one_more k o l e = simp e

-- where the search from l's own first octet on ends
pub next_in : List ℕ → ℕ
next_in [] = 0
next_in (o ∷ l) = cond (well_formed (o ∷ l)) 0 (suc (next_in l))

searched : (k : ℕ) (l : List ℕ) → items_from 0 k l ≡ after (k + next_in l) (items (drop (next_in l) l))
unfolding items_from items next_in
searched k [] = ap (λ (m : ℕ). after m []) (sym (add-zero k))
searched k (o ∷ l) =
    by (well_formed (o ∷ l))
    (λ e. simp (e, add-zero))
    (λ e.
    let n : suc k + next_in l ≡ k + suc (next_in l) = omega arith in
    simp e (searched (suc k) l ∙ ap (λ (m : ℕ). after m (items (drop (next_in l) l))) n))

found : (l : List ℕ) → stops (drop (next_in l) l) ≡ true
unfolding next_in stops well_formed
found [] = refl
found (o ∷ l) = by (well_formed (o ∷ l)) (λ e. simp e) (λ e. simp e (found l))

pub goes : (o : ℕ) (l : List ℕ) → well_formed (o ∷ l) ≡ false → stops (o ∷ l) ≡ false
unfolding stops
goes o l e = simp (e, eqb-suc-zero (length l))

below : (l : List ℕ) (m o : ℕ) → m < next_in (o ∷ l) → (well_formed (o ∷ l) ≡ false) × (m < suc (next_in l))
unfolding next_in
below l m o h =
    by (well_formed (o ∷ l))
    (λ e. let g : m < 0 = simp e at h in absurd (omega arith))
    (λ e. (e, simp e at h))

before : (l : List ℕ) (m : ℕ) → m < next_in l → stops (drop m l) ≡ false
unfolding next_in stops
before [] m h = absurd (omega arith)
before (o ∷ l) zero h = goes o l (below l zero o h).0
before (o ∷ l) (suc m) h = before l m (omega (arith, (below l (suc m) o h).1))

-- the next position
pub next : (o : ℕ) (l : List ℕ) → Next (o ∷ l) (suc (next_in l))
next o l = record { some = omega arith; found = found l; least = least }
  where
    least : (m : ℕ) → 1 ≤ m → m < suc (next_in l) → stops (drop m (o ∷ l)) ≡ false
    least zero h g = absurd (omega arith)
    least (suc m) h g = before l m (omega arith)

-- there is one alone
no_lower : (l : List ℕ) (n m : ℕ) → Next l n → Next l m → n < m → ⊥
no_lower l n m a b h =
    let t = a.found in
    let f = b.least n a.some h in
    let z : ◌≡◌ {A = ℕ} 0 1 = cc in
    omega arith

pub same_next : (l : List ℕ) (n m : ℕ) → Next l n → Next l m → n ≡ m
same_next l n m a b =
    by (leb n m)
    (λ e. by (leb m n) (λ f. omega (arith, leb-true n m e, leb-true m n f)) (λ f. absurd (no_lower l n m a b (leb-false _ _ f))))
    (λ e. absurd (no_lower l m n b a (leb-false _ _ e)))

-- where l goes on, it has a first octet, and no record stands there
pub damaged : (l : List ℕ) → stops l ≡ false → (well_formed l ≡ false) × (1 ≤ length l)
unfolding stops well_formed
damaged [] e = absurd (let z : ◌≡◌ {A = ℕ} 0 1 = cc in omega arith)
damaged (o ∷ l) e = by (well_formed (o ∷ l)) (λ t. absurd (let f : ◌≡◌ {A = Bool} true false = simp t at e in let z : ◌≡◌ {A = ℕ} 0 1 = cc in omega arith)) (λ f. (f, omega arith))

pub at-damage : (l : List ℕ) (n : ℕ) → stops l ≡ false → Next l n → items l ≡ skipped n ∷ items (drop n l)
unfolding items
at-damage [] n e h = absurd (omega (arith, (damaged [] e).1))
at-damage (o ∷ l) n e h =
    let s : n ≡ suc (next_in l) = same_next (o ∷ l) n (suc (next_in l)) h (next o l) in
    let c : 1 + next_in l ≡ suc (next_in l) = omega arith in
    one_more 0 o l (damaged (o ∷ l) e).0
    ∙ searched 1 l
    ∙ ap (λ (m : ℕ). after m (items (drop (next_in l) l))) c
    ∙ ap (λ (m : ℕ). skipped m ∷ items (drop m (o ∷ l))) (sym s)

reads : Reads items
unfolding items items_from
reads = record { at-end = refl; at-record = λ l e. at-record 0 l e; at-damage = at-damage }

-- by the number of octets
only : (f : List ℕ → List Item) → Reads f → (k : ℕ) (l : List ℕ) → length l ≤ k → f l ≡ items l
only f r zero [] h = r.at-end ∙ sym reads.at-end
only f r zero (o ∷ l) h = absurd (omega arith)
only f r (suc k) [] h = r.at-end ∙ sym reads.at-end
only f r (suc k) (o ∷ l) h =
    by (well_formed (o ∷ l))
    (λ e.
    let n = 5 + size_at (o ∷ l) in
    let short : length (drop n (o ∷ l)) ≤ k = simp length-drop (omega arith) in
    r.at-record (o ∷ l) e
    ∙ ap (λ (is : List Item). call_at (o ∷ l) ∷ is) (only f r k (drop n (o ∷ l)) short)
    ∙ sym (reads.at-record (o ∷ l) e))
    (λ e.
    let n = suc (next_in l) in
    let short : length (drop (next_in l) l) ≤ k = simp length-drop (omega arith) in
    let s : stops (o ∷ l) ≡ false = goes o l e in
    r.at-damage (o ∷ l) n s (next o l)
    ∙ ap (λ (is : List Item). skipped n ∷ is) (only f r k (drop (next_in l) l) short)
    ∙ sym (reads.at-damage (o ∷ l) n s (next o l)))

pub sentence : Sentence
sentence = record { reads = reads; next = some; only = λ f r l. only f r (length l) l (omega arith) }
  where
    some : (l : List ℕ) → 1 ≤ length l → (n : ℕ) × Next l n
    some [] h = absurd (omega arith)
    some (o ∷ l) h = (suc (next_in l), next o l)
