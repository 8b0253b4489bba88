-- The answers of reading, test by test.
use Prim.Native.Nat.{ℕ, ◌/◌, ◌%◌, ◌≤◌, ◌<◌}
use mathlib.Core.Path.{◌≡◌}
use mathlib.Core.Bool.{true, false, and-false}
use mathlib.Core.List.{List}
use borrow.Author.Tests.{le-leb, lt-leb, eq-eqb, ne_eqb}
use lib.ListN.{length}
use lib.Seq.{paste}
use Rattle.std.specs.Prelude.{Ok, Err}
use Rattle.hex_lines.specs.Hex.{are_digits, octets_of}
use Rattle.hex_lines.specs.Line.{are_octets, decoded_of, written}
use Rattle.hex_lines.specs.declared.NotDecoded.TheVariants.{Long, Bad}

module _ (text : List ℕ) where
  pub odd : (length text % 2 ≡ 0 → ⊥) → are_octets text ≡ false
  unfolding are_octets
  odd h = rw (ne_eqb (length text % 2) 0 h)

  pub strange : are_digits text ≡ false → are_octets text ≡ false
  unfolding are_octets
  strange h = rw (h, and-false)

  pub even : length text % 2 ≡ 0 → are_digits text ≡ true → are_octets text ≡ true
  unfolding are_octets
  even h k = rw (eq-eqb (length text % 2) 0 h, k)

  pub none : (out : List ℕ) → are_octets text ≡ false → (Err Bad ≡ decoded_of text (length out)) × (out ≡ written text out)
  unfolding decoded_of written
  none out h = (rw h, rw h)

  pub long : (out : List ℕ) → are_octets text ≡ true → length out < length text / 2
      → (Err Long ≡ decoded_of text (length out)) × (out ≡ written text out)
  unfolding decoded_of written
  long out h k = (rw (h, lt-leb (length text / 2) (length out) k), rw (h, lt-leb (length text / 2) (length out) k))

  pub fits : (out after : List ℕ) → are_octets text ≡ true → length text / 2 ≤ length out
      → after ≡ paste out 0 (octets_of text) (length text / 2)
      → (Ok (length text / 2) ≡ decoded_of text (length out)) × (after ≡ written text out)
  unfolding decoded_of written
  fits out after h k e =
      (rw (h, le-leb (length text / 2) (length out) k), rw (h, le-leb (length text / 2) (length out) k) e)
