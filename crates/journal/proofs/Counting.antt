-- Every octet is counted once, and stretches never touch.
use mathlib.Core.Path.{◌≡◌, refl}
use mathlib.Core.Bool.{true}
use mathlib.Core.List.{List, [], ◌∷◌}
use Prim.Native.Nat.{ℕ, zero, suc, ◌+◌, ◌≤◌}
use native.Mathlib.Omega.{arith}
use lib.ListN.{length, get_or, take, drop, length-drop}
use lib.Seq.{length-take-le}
use borrow.Author.Tests.{lt-ltb}
use Rattle.journal.specs.Records.{size_at, well_formed}
use Rattle.journal.specs.Items.{Item, call, call_at, after, items_from, items}
use Rattle.journal.specs.Laws.{skipped_in, done_in, are_apart, Counted}
use Rattle.journal.proofs.Known.{by, stands}

abbrev octets_of : List Item → ℕ
octets_of is = skipped_in is + done_in is

behind : (k : ℕ) (is : List Item) → octets_of (after k is) ≡ k + octets_of is
behind zero is = omega arith
behind (suc k) is = omega arith

-- a record's bytes are all there
bytes : (l : List ℕ) → well_formed l ≡ true → length (take (size_at l) (drop 5 l)) ≡ size_at l
bytes l e =
    let h : size_at l ≤ length (drop 5 l) = simp length-drop (omega (arith, (stands l e).whole)) in length-take-le (size_at l) (drop 5 l) h

all : (j k : ℕ) (l : List ℕ) → j ≤ length l → octets_of (items_from j k l) + j ≡ k + length l
unfolding items_from
all zero k [] h = omega (arith, behind k [])
all (suc j) k [] h = absurd (omega arith)
all (suc j) k (o ∷ l) h = omega (arith, all j k l (omega arith))
all zero k (o ∷ l) h =
    by (well_formed (o ∷ l))
    (λ e.
    let n = size_at (o ∷ l) in
    let w = (stands (o ∷ l) e).whole in
    let is = items_from (4 + n) 0 l in
    let r : octets_of is + (4 + n) ≡ 0 + length l = all (4 + n) 0 l (omega arith) in
    simp e (omega (arith, behind k (call_at (o ∷ l) ∷ is), bytes (o ∷ l) e, r)))
    (λ e. simp e (omega (arith, all zero (suc k) l (omega arith))))

-- what stands behind a stretch is a call or nothing
ended : (k : ℕ) → are_apart (after k []) ≡ true
ended zero = refl
ended (suc k) = simp (lt-ltb 0 (suc k) (omega arith))

called : (k kind : ℕ) (b : List ℕ) (is : List Item) → are_apart is ≡ true → are_apart (after k (call kind b ∷ is)) ≡ true
called zero kind b is e = e
called (suc k) kind b is e = simp (lt-ltb 0 (suc k) (omega arith), e)

apart : (j k : ℕ) (l : List ℕ) → are_apart (items_from j k l) ≡ true
unfolding items_from
apart zero k [] = ended k
apart (suc j) k [] = ended k
apart (suc j) k (o ∷ l) = apart j k l
apart zero k (o ∷ l) =
    by (well_formed (o ∷ l))
    (λ e. simp e (called k (get_or (o ∷ l) 2 0) _ (items_from (4 + size_at (o ∷ l)) 0 l) (apart (4 + size_at (o ∷ l)) 0 l)))
    (λ e. simp e (apart zero (suc k) l))

pub counted : (l : List ℕ) → Counted l
unfolding items
counted l = record { all = omega (arith, all 0 0 l (omega arith)); apart = apart 0 0 l }
