-- An output written behind a front that stands already, and the refusals of a length that is counted no further than 60,001.
use mathlib.Core.Path.{◌≡◌, refl, ap, ◌∙◌}
use mathlib.Core.Bool.{Bool, true, false, not}
use mathlib.Core.List.{List, [], ◌∷◌, ◌++◌, append-nil}
use Prim.Native.Nat.{ℕ, zero, suc, ◌+◌, ◌-◌, ◌≤◌, ◌<◌, min}
use native.Mathlib.Nat.{min-eq_left, min-eq_right}
use native.Mathlib.Omega.{arith}
use lib.Dec.{leb, ltb}
use lib.ListN.{length, get_or, take, drop, length-drop, drop_of_length-le}
use lib.Seq.{take_at}
use borrow.Author.Tests.{le-leb, ne_eqb, lt-ltb, ltb-false, leb-true, leb-false}
use Rattle.refusals.specs.Order.{◌when◌, first}
use Rattle.journal.specs.Records.{Lengths, none, exactly, at_least, kinds, allows, is_allowed, most}
use Rattle.journal.specs.Write.{refusal_of}
use Rattle.journal.proofs.Known.{by}

-- z takes the place of all that stands behind p
pub behind : (y z p q : List ℕ) (a : ℕ) → length p ≡ a → y ≡ p ++ q → take a y ++ (z ++ drop (length y - a) (drop a y)) ≡ p ++ z
behind y z p q a h e =
    let front : take a y ≡ p = ap (λ (l : List ℕ). take a l) e ∙ take_at p q a h in
    let long : length (drop a y) ≤ length y - a = simp length-drop (omega arith) in
    let rest : drop (length y - a) (drop a y) ≡ [] = drop_of_length-le (drop a y) long in
    ap (λ (l : List ℕ). l ++ (z ++ drop (length y - a) (drop a y))) front
    ∙ ap (λ (l : List ℕ). p ++ (z ++ l)) rest
    ∙ ap (λ (l : List ℕ). p ++ l) (append-nil z)

-- the table has no number above 60,000
abbrev Short : Lengths → Type 0
Short none = Unit {0}
Short (exactly m) = m ≤ 60000
Short (at_least m) = m ≤ 60000

abbrev AllShort : List Lengths → Type 0
AllShort [] = Unit {0}
AllShort (x ∷ l) = Short x × AllShort l

short-at : (l : List Lengths) (k : ℕ) → AllShort l → Short (get_or l k none)
short-at [] k a = tt
short-at (x ∷ l) zero a = a.0
short-at (x ∷ l) (suc k) a = short-at l k a.1

same : (x : Lengths) (n m : ℕ) → Short x → 60000 < n → 60000 < m → allows x n ≡ allows x m
same none n m s h g = refl
same (exactly k) n m s h g = simp (ne_eqb n k (λ e. omega arith), ne_eqb m k (λ e. omega arith))
same (at_least k) n m s h g = simp (le-leb k n (omega arith), le-leb k m (omega arith))

-- so a length above it is as allowed as any other
long : (kind n : ℕ) → 60000 < n → is_allowed kind n ≡ is_allowed kind 60001
unfolding is_allowed
long kind n h =
    same (get_or kinds kind none) n 60001
    (short-at kinds kind (tt, (omega arith, (omega arith, (omega arith, (omega arith, (omega arith, (omega arith, (omega arith, (omega arith, (omega arith, (omega arith, (omega arith, (omega arith, (omega arith, (omega arith, tt))))))))))))))))
    h (omega arith)

over : (kind n room : ℕ) → 60001 < n → refusal_of kind (min n 60001) room ≡ refusal_of kind n room
unfolding refusal_of
over kind n room h =
    let le : 60001 ≤ n = omega arith in
    let e : min n 60001 ≡ 60001 = min-eq_right le in
    let lt : most < n = omega arith in
    ap (λ (m : ℕ). refusal_of kind m room) e ∙ simp (long kind n lt, lt-ltb _ _ lt)

pub capped : (kind n room : ℕ) → refusal_of kind (min n 60001) room ≡ refusal_of kind n room
unfolding refusal_of
capped kind n room =
    by (leb n 60001)
    (λ e. let h : n ≤ 60001 = leb-true _ _ e in ap (λ (m : ℕ). refusal_of kind m room) (min-eq_left h))
    (λ e. over kind n room (leb-false _ _ e))

pub uncapped : (n m : ℕ) → m ≡ min n 60001 → m ≤ 60000 → m ≡ n
uncapped n m e h =
    by (leb n 60001)
    (λ t. let le : n ≤ 60001 = leb-true _ _ t in e ∙ min-eq_left le)
    (λ t.
    let lt : 60001 < n = leb-false _ _ t in
    let le : 60001 ≤ n = omega arith in
    let g : min n 60001 ≡ 60001 = min-eq_right le in
    absurd (omega arith))

none_of : (a b c : Bool) → first (1 when not a ∷ 4 when b ∷ 5 when c ∷ []) ≡ 0 → (b ≡ false) × (c ≡ false)
none_of true false false e = (refl, refl)
none_of true false true e = absurd (omega arith)
none_of true true c e = absurd (omega arith)
none_of false b c e = absurd (omega arith)

-- what no refusal says of a length
pub room-for : (kind n room : ℕ) → refusal_of kind n room ≡ 0 → (n ≤ 60000) × (5 + n ≤ room)
unfolding refusal_of
room-for kind n room e =
    let f = none_of (is_allowed kind n) (ltb most n) (ltb room (5 + n)) e in (ltb-false _ _ f.0, ltb-false _ _ f.1)
