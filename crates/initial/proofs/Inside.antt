-- The look at an initial message, and the test of the container's message.
use Rattle.std.proofs.Common.{◌≡◌, ℕ, suc, List, [], ◌∷◌, true, false, Some, eqb, refl, sym, ◌∙◌, arith, length, get_or, take}
use Rattle.std.proofs.lemmas.Bool.{le-leb, and_parts}
use Rattle.std.proofs.lemmas.Bool.Decides.{nat_tests}
use Rattle.look.specs.declared.Way.TheVariants.{Uplink}
use Rattle.look.specs.Types.{way_of}
use Rattle.look.specs.Look.{is_mobility, is_of, way_in, not_known, alone, not_together, wrong_way, look_of}
use Rattle.initial.specs.Messages.{is_initial, type_of}
use Rattle.initial.specs.Inside.{is_inside}

-- a message is of its own type, and of no other
pub of-type : (t : ℕ) (m : List ℕ) → is_of t m ≡ true → type_of m ≡ t
unfolding is_of
of-type t m e = grind (arith, nat_tests)

pub own : (m : List ℕ) → is_initial m ≡ true → is_of (type_of m) m ≡ true
unfolding is_initial is_of
own m e = grind (arith, nat_tests)

-- a message that the UE sends, other than SECURITY MODE COMPLETE, passes the look under header type 1, uplink
looks-of : (t : ℕ) (m : List ℕ) → way_of t ≡ Some Uplink → eqb t 0x5D ≡ false → eqb t 0x5E ≡ false → is_of t m ≡ true → look_of 1 0 m ≡ 0
unfolding is_of look_of not_known not_together alone wrong_way way_in
looks-of t m u n k e = simp ((and_parts (is_mobility m) (eqb (get_or m 2 0) t) e).0, of-type t m e, u, n, k)

pub looks : (m : List ℕ) → is_initial m ≡ true → look_of 1 0 m ≡ 0
unfolding is_initial way_of
looks m e = grind (arith, nat_tests, looks-of 0x4C m refl refl refl, looks-of 0x45 m refl refl refl)

-- the type's three octets
pub first_three : (t : ℕ) (q : List ℕ) → is_of t (take 3 q) ≡ is_of t q
unfolding is_of is_mobility
first_three t [] = refl
first_three t (a ∷ []) = refl
first_three t (a ∷ b ∷ []) = refl
first_three t (a ∷ b ∷ c ∷ q) = simp (le-leb 3 (suc (suc (suc (length q)))) (omega arith))

-- a message of an initial message's type is an initial message
of-same : (p q : List ℕ) → is_initial p ≡ true → is_of (type_of p) q ≡ true → is_initial q ≡ true
unfolding is_initial is_of
of-same p q i e = grind (arith, nat_tests)

pub by-type : (p q : List ℕ) → is_initial p ≡ true → is_inside p q ≡ is_of (type_of p) q
unfolding is_inside
by-type p q i = grind (arith, nat_tests, looks, of-same)

pub by_three : (p q : List ℕ) → is_initial p ≡ true → is_inside p (take 3 q) ≡ is_inside p q
by_three p q i = by-type p (take 3 q) i ∙ first_three (type_of p) q ∙ sym (by-type p q i)
