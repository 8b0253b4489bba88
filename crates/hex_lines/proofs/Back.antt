-- What is printed reads back.
use Prim.Native.Nat.{ℕ, ◌+◌, ◌/◌, ◌%◌, ◌≤◌, ◌<◌}
use mathlib.Core.Path.{◌≡◌, refl, ap}
use mathlib.Core.Bool.{Bool, true, false}
use mathlib.Core.List.{List, [], ◌∷◌}
use native.Mathlib.Nat.{div-add-mod'}
use native.Mathlib.Omega.{arith}
use borrow.Author.Tests.{lt-ltb, le-ltb, ltb-true, ltb-false}
use lib.Dec.{ltb}
use Rattle.hex_lines.specs.Back.{ReadsBack}
use Rattle.hex_lines.specs.Hex.{is_digit, digit_of, char_of, are_digits, octets_of, text_of}
use Rattle.hex_lines.proofs.Laws.{decimal, decimal-value, letter, letter-value}

either : {P : Type 0} (t : Bool) → (t ≡ true → P) → (t ≡ false → P) → P
either true f g = f refl
either false f g = g refl

module _ (n : ℕ) (h : n < 16) where
  small-char : n < 10 → char_of n ≡ n + 48
  unfolding char_of
  small-char k = rw (lt-ltb n 10 k)

  large-char : 10 ≤ n → char_of n ≡ n + 87
  unfolding char_of
  large-char k = rw (le-ltb n 10 k)

  pub is-char : is_digit (char_of n) ≡ true
  is-char =
      either (ltb n 10)
      (λ e. let k : n < 10 = ltb-true n 10 e in rw (small-char k) (decimal (n + 48) (omega arith) (omega arith)))
      (λ e. let k : 10 ≤ n = ltb-false n 10 e in rw (large-char k) (letter (n + 87) (omega arith) (omega arith)))

  pub char-back : digit_of (char_of n) ≡ n
  char-back =
      either (ltb n 10)
      (λ e.
      let k : n < 10 = ltb-true n 10 e in
      rw (small-char k, ← decimal-value (n + 48) (omega arith) (omega arith)) (omega arith))
      (λ e.
      let k : 10 ≤ n = ltb-false n 10 e in
      rw (large-char k, ← letter-value (n + 87) (omega arith) (omega arith)) (omega arith))

pub reads-back : ReadsBack
unfolding are_digits octets_of text_of
reads-back [] o = (refl, refl)
reads-back (b ∷ bs) o =
    let high : b / 16 < 16 = omega arith in
    let low : b % 16 < 16 = omega arith in (
      rw (is-char (b / 16) high, is-char (b % 16) low) (reads-back bs o.1).0,
      rw (char-back (b / 16) high, char-back (b % 16) low, div-add-mod') (ap (λ (l : List ℕ). b ∷ l) (reads-back bs o.1).1),
    )
