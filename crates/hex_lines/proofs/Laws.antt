-- What the definitions say at a place of a text: one more digit, one more octet, one more character.
use Prim.Native.Nat.{ℕ, zero, suc, ◌+◌, ◌*◌, ◌-◌, ◌/◌, ◌%◌, ◌^◌, ◌≤◌, ◌<◌}
use mathlib.Core.Path.{◌≡◌, refl, sym, ap, ◌∙◌}
use mathlib.Core.Bool.{Bool, true, false, ◌&&◌}
use mathlib.Core.List.{List, [], ◌∷◌}
use native.Mathlib.Nat.{pow-suc, pow-le-pow_right, add-div_left}
use native.Mathlib.Numerals.{add-one}
use native.Mathlib.Omega.{arith}
use borrow.Author.Tests.{ltb-false, lt-ltb, le-ltb, le-leb, lt-leb}
use lib.ListN.{length, get_or, take, drop, set, drop_of_length-le, length-drop}
use lib.Seq.{drop-cons, take_all, paste, paste-suc, length-paste}
use Rattle.hex_lines.specs.Hex.{is_digit, digit_of, char_of, are_digits, number_after, octets_of, text_of, decimal_of, big_endian}
use Rattle.hex_lines.specs.Line.{up_to}
use Rattle.std.specs.Prelude.{cond, nat_eq, nat_lt, Option, Some, None}
use Rattle.std.specs.List.{list_all, position, position_or_len}
use Rattle.std.specs.Option.{unwrap_or}
use Rattle.std.specs.Int.{to_be_bytes, w64}
use Rattle.std.specs.List.{AllPass, Any}
use Rattle.std.proofs.lemmas.List.Folds.{list_all_at}
use Rattle.std.proofs.lemmas.List.Recursion.{is_position_or_len}
use Rattle.std.proofs.lemmas.List.Sums.{list_all-from_AllPass}

module _ (c : ℕ) where
  pub below : c < 48 → is_digit c ≡ false
  unfolding is_digit
  below h = rw (lt-leb 48 c h, lt-leb 97 c (omega arith))

  pub decimal : 48 ≤ c → c ≤ 57 → is_digit c ≡ true
  unfolding is_digit
  decimal h k = rw (le-leb 48 c h, le-leb c 57 k)

  pub between : 57 < c → c < 97 → is_digit c ≡ false
  unfolding is_digit
  between h k = rw (le-leb 48 c (omega arith), lt-leb c 57 h, lt-leb 97 c k)

  pub letter : 97 ≤ c → c ≤ 102 → is_digit c ≡ true
  unfolding is_digit
  letter h k = rw (le-leb 48 c (omega arith), lt-leb c 57 (omega arith), le-leb 97 c h, le-leb c 102 k)

  pub above : 102 < c → is_digit c ≡ false
  unfolding is_digit
  above h = rw (le-leb 48 c (omega arith), lt-leb c 57 (omega arith), le-leb 97 c (omega arith), lt-leb c 102 h)

  pub no_value : is_digit c ≡ false → 0 ≡ digit_of c
  unfolding digit_of
  no_value e = rw e

  pub decimal-value : 48 ≤ c → c ≤ 57 → c - 48 ≡ digit_of c
  unfolding digit_of
  decimal-value h k = rw (decimal h k, le-leb c 57 k)

  pub letter-value : 97 ≤ c → c ≤ 102 → c - 87 ≡ digit_of c
  unfolding digit_of
  letter-value h k = rw (letter h k, lt-leb c 57 (omega arith))

module _ (text : List ℕ) (i : ℕ) (within : i < length text) where
  pub number_more : (n : ℕ) → number_after n (drop i text) ≡ number_after (n * 16 + digit_of (get_or text i 0)) (drop (suc i) text)
  unfolding number_after
  number_more n = rw (drop-cons text i 0)

  pub number-go : (n r : ℕ) → r ≡ n * 16 + digit_of (get_or text i 0) → number_after n (drop i text) ≡ number_after 0 text
      → number_after r (drop (i + 1) text) ≡ number_after 0 text
  number-go n r e g = rw (add-one, e) (sym (number_more n) ∙ g)

pub number-end : (text : List ℕ) (i n : ℕ) → length text ≤ i → number_after n (drop i text) ≡ number_after 0 text → n ≡ number_after 0 text
unfolding number_after
number-end text i n h e = sym (ap (number_after n) (drop_of_length-le text {i = i} h)) ∙ e

-- a number of i digits is below 16 ^ i, and one more digit keeps it so
pub small : (i n : ℕ) → i < 16 → n < 16 ^ i → n < 1152921504606846976
small i n h b =
    let a : 0 < 16 = omega arith in
    let l : i ≤ 15 = omega arith in
    omega (arith, pow-le-pow_right {n = 16} a {i = i} {j = 15} l)

pub wider : (i m n : ℕ) → i ≤ m → n < 16 ^ i → n < 16 ^ m
wider i m n h b =
    let a : 0 < 16 = omega arith in
    omega (arith, pow-le-pow_right {n = 16} a {i = i} {j = m} h)

pub grown : (i n m : ℕ) → n < 16 ^ i → m < n * 16 + 16 → m < 16 ^ suc i
grown i n m h k = omega (arith, pow-suc 16 i)

pub octet-at : (t : List ℕ) (i : ℕ) → i * 2 + 1 < length t
    → get_or (octets_of t) i 0 ≡ digit_of (get_or t (i * 2) 0) * 16 + digit_of (get_or t (i * 2 + 1) 0)
unfolding octets_of
octet-at [] i h = absurd (omega arith)
octet-at (c ∷ []) i h = absurd (omega arith)
octet-at (c ∷ d ∷ t) zero h = refl
octet-at (c ∷ d ∷ t) (suc i) h =
    let e : suc i * 2 ≡ suc (suc (i * 2)) = omega arith in
    let f : suc i * 2 + 1 ≡ suc (suc (i * 2 + 1)) = omega arith in
    rw (f, e) (octet-at t i (omega arith))

pub octets-length : (t : List ℕ) → length (octets_of t) ≡ length t / 2
unfolding octets_of
octets-length [] = refl
octets-length (c ∷ []) = refl
octets-length (c ∷ d ∷ t) =
    let e : suc (suc (length t)) ≡ 2 + length t = omega arith in
    rw (e, add-div_left (length t) {k = 2} (omega arith)) (omega (arith, octets-length t))

pub text-length : (bs : List ℕ) → length (text_of bs) ≡ length bs * 2
unfolding text_of
text-length [] = refl
text-length (b ∷ bs) = omega (arith, text-length bs)

pub high-at : (bs : List ℕ) (i : ℕ) → i < length bs → get_or (text_of bs) (i * 2) 0 ≡ char_of (get_or bs i 0 / 16)
unfolding text_of
high-at [] i h = absurd (omega arith)
high-at (b ∷ bs) zero h = refl
high-at (b ∷ bs) (suc i) h =
    let e : suc i * 2 ≡ suc (suc (i * 2)) = omega arith in
    rw e (high-at bs i (omega arith))

pub low-at : (bs : List ℕ) (i : ℕ) → i < length bs → get_or (text_of bs) (i * 2 + 1) 0 ≡ char_of (get_or bs i 0 % 16)
unfolding text_of
low-at [] i h = absurd (omega arith)
low-at (b ∷ bs) zero h = refl
low-at (b ∷ bs) (suc i) h =
    let e : suc i * 2 + 1 ≡ suc (suc (i * 2 + 1)) = omega arith in
    rw e (low-at bs i (omega arith))

-- a number in decimal, by its size
module _ (n : ℕ) where
  pub one_place : n < 10 → decimal_of n ≡ (n + 48) ∷ []
  unfolding decimal_of
  one_place h = rw (lt-ltb n 10 h)

  pub two-places : 10 ≤ n → n < 100 → decimal_of n ≡ (n / 10 + 48) ∷ (n % 10 + 48) ∷ []
  unfolding decimal_of
  two-places h k = rw (le-ltb n 10 h, lt-ltb n 100 k)

  pub three-places : 100 ≤ n → decimal_of n ≡ (n / 100 + 48) ∷ (n / 10 % 10 + 48) ∷ (n % 10 + 48) ∷ []
  unfolding decimal_of
  three-places h = rw (le-ltb n 10 (omega arith), le-ltb n 100 h)

-- one more character, and two
module _ (d s out : List ℕ) (at j v : ℕ) (so_far : out ≡ paste d at s j) where
  pub put_one : at + j < length d → j < length s → v ≡ get_or s j 0 → set out (at + j) v ≡ paste d at s (j + 1)
  put_one hd hs e = rw (so_far, e, add-one) (paste-suc d at s j 0 hd hs)

  pub put-length : at + j ≤ length d → j ≤ length s → length out ≡ length d
  put-length hd hs = rw so_far (length-paste d at s j hd hs)

pub put_two : (d s out : List ℕ) (at i v w : ℕ) → out ≡ paste d at s (i * 2) → at + i * 2 + 1 < length d → i * 2 + 1 < length s
    → v ≡ get_or s (i * 2) 0 → w ≡ get_or s (i * 2 + 1) 0 → set (set out (at + i * 2) v) (at + i * 2 + 1) w ≡ paste d at s ((i + 1) * 2)
put_two d s out at i v w so_far hd hs ev ew =
    let e : at + i * 2 + 1 ≡ at + (i * 2 + 1) = omega arith in
    let f : (i + 1) * 2 ≡ i * 2 + 1 + 1 = omega arith in
    let first : set out (at + i * 2) v ≡ paste d at s (i * 2 + 1) = put_one d s out at (i * 2) v so_far (omega arith) (omega arith) ev in
    rw (e, f) (put_one d s (set out (at + i * 2) v) at (i * 2 + 1) w first (omega arith) hs ew)

-- one more octet at the front
pub put_front : (d s out : List ℕ) (i v : ℕ) → out ≡ paste d 0 s i → i < length d → i < length s → v ≡ get_or s i 0
    → set out i v ≡ paste d 0 s (i + 1)
put_front d s out i v so_far hd hs e =
    let z : 0 + i ≡ i = omega arith in
    rw z at (put_one d s out 0 i v so_far (omega arith) hs e)

digits-all : (text : List ℕ) → list_all is_digit text ≡ are_digits text
unfolding are_digits
digits-all [] = refl
digits-all (c ∷ text) = ap (λ (b : Bool). is_digit c && b) (digits-all text)

-- a run of digits, as a test of each character answers it
pub digits-tested : (text : List ℕ) (r : Bool) → (r ≡ true → AllPass is_digit text) → (r ≡ false → Any (λ x. is_digit x ≡ false) text) → r ≡ are_digits text
digits-tested text true f g = sym (list_all-from_AllPass is_digit text (f refl)) ∙ digits-all text
digits-tested text false f g =
    let a : Any (λ x. is_digit x ≡ false) text = g refl in sym (list_all_at is_digit text a.0 a.1 a.2 (rw a.3 a.4)) ∙ digits-all text

one_more : (b : Bool) (x : ℕ) (l : List ℕ) → length (cond b [] (x ∷ l)) ≡ cond b 0 (1 + length l)
one_more true x l = refl
one_more false x l = omega arith

-- what stands before a stop reaches to the first one
pub up_to-length : (stop : ℕ) (text : List ℕ) → length (up_to stop text) ≡ position_or_len (λ c. nat_eq c stop) text
unfolding up_to
up_to-length stop text =
    is_position_or_len (λ (l : List ℕ). length (up_to stop l)) (λ c. nat_eq c stop) refl (λ x xs. one_more (nat_eq x stop) x (up_to stop xs)) text

pub up_to-within : (stop : ℕ) (text : List ℕ) → length (up_to stop text) ≤ length text
unfolding up_to
up_to-within stop [] = omega arith
up_to-within stop (c ∷ text) = shorter (nat_eq c stop) c (up_to stop text) text (up_to-within stop text)
  where
    shorter : (b : Bool) (x : ℕ) (l m : List ℕ) → length l ≤ length m → length (cond b [] (x ∷ l)) ≤ suc (length m)
    shorter true x l m h = omega arith
    shorter false x l m h = omega arith

or_end : (i n : ℕ) → i ≤ n → unwrap_or (cond (nat_lt i n) (Some i) None) n ≡ i
or_end i n h = by (nat_lt i n) refl
  where
    by : (b : Bool) → nat_lt i n ≡ b → unwrap_or (cond b (Some i) None) n ≡ i
    by true e = refl
    by false e = omega (arith, ltb-false i n e)

-- the place of the first stop in the rest of a text, or its end
pub place : (stop : ℕ) (rest part : List ℕ) (found : Option ℕ) (n : ℕ) → part ≡ rest
    → found ≡ position (λ c. nat_eq c stop) part → n ≡ unwrap_or found (length part) → n ≡ length (up_to stop rest)
place stop rest part found n whole is e =
    rw (up_to-length stop rest) (e ∙ rw (is, whole) (or_end (position_or_len (λ c. nat_eq c stop) rest) (length rest) (rw (← up_to-length stop rest) (up_to-within stop rest))))

pub bytes : (n : ℕ) (l : List ℕ) → l ≡ to_be_bytes w64 n → l ≡ big_endian n
unfolding big_endian
bytes n l e = e

-- the last octets of a number, put
pub last-octets : (n octets : ℕ) → octets ≤ 8 → length (drop (8 - octets) (big_endian n)) ≡ octets
unfolding big_endian
last-octets n octets h = simp length-drop (omega arith)

pub last-part : (n octets : ℕ) → octets ≤ 8
    → take (8 - (8 - octets)) (drop (8 - octets) (big_endian n)) ≡ drop (8 - octets) (big_endian n)
last-part n octets h = take_all (8 - (8 - octets)) (drop (8 - octets) (big_endian n)) (omega (arith, last-octets n octets h))

-- a text from a place on
pub all : (text : List ℕ) (at : ℕ) → take (length text - at) (drop at text) ≡ drop at text
all text at = take_all (length text - at) (drop at text) (omega (arith, length-drop at text))
