-- A form and a text, place by place; parts of a text; the octets at its end.
use Prim.Native.Nat.{ℕ, suc, ◌+◌, ◌≤◌, ◌<◌}
use mathlib.Core.Path.{◌≡◌, refl, sym, ◌∙◌}
use mathlib.Core.Bool.{Bool, true, false, cond, ◌&&◌}
use mathlib.Core.List.{List, [], ◌∷◌}
use native.Mathlib.Numerals.{add-one}
use native.Mathlib.Omega.{arith}
use borrow.Author.Tests.{eqb-true}
use lib.Dec.{eqb, leb}
use lib.ListN.{length, get_or, drop, drop_of_length-le}
use lib.Seq.{drop-cons}
use Rattle.hex_lines.specs.Line.{are_octets, written}
use Rattle.hex_lines.specs.Hex.{are_digits}
use Rattle.hex_lines.proofs.Texts as texts
use Rattle.hex_parse.specs.Form.{may_stand, begins}
use Rattle.hex_parse.specs.Parsed.{is_none}

module _ (form text : List ℕ) (i : ℕ) where
  more : i < length form → i < length text
      → begins (drop i form) (drop i text) ≡ (may_stand (get_or form i 0) (get_or text i 0) && begins (drop (suc i) form) (drop (suc i) text))
  unfolding begins
  more h k = rw (drop-cons form i 0, drop-cons text i 0)

  pub short : i < length form → length text ≤ i → begins (drop i form) (drop i text) ≡ begins form text → false ≡ begins form text
  unfolding begins
  short h k e = sym (rw (drop-cons form i 0, drop_of_length-le text {i = i} k)) ∙ e

  pub stop : i < length form → i < length text → (r : Bool) → r ≡ may_stand (get_or form i 0) (get_or text i 0) → r ≡ false
      → begins (drop i form) (drop i text) ≡ begins form text → false ≡ begins form text
  stop h k r e f g = sym (sym g ∙ more h k ∙ rw (← e, f))

  pub go : i < length form → i < length text → (r : Bool) → r ≡ may_stand (get_or form i 0) (get_or text i 0) → r ≡ true
      → begins (drop i form) (drop i text) ≡ begins form text → begins (drop (i + 1) form) (drop (i + 1) text) ≡ begins form text
  go h k r e f g = rw add-one (sym (more h k ∙ rw (← e, f)) ∙ g)

  pub end : length form ≤ i → begins (drop i form) (drop i text) ≡ begins form text → true ≡ begins form text
  unfolding begins
  end h e = sym (rw (drop_of_length-le form {i = i} h)) ∙ e

same : (b : Bool) (l : List ℕ) → l ≡ cond b l l
same true l = refl
same false l = refl

pub none_written : (text held : List ℕ) → length text ≡ 0 → held ≡ written text held
unfolding written are_octets are_digits
none_written [] held e = same (leb 0 (length held)) held
none_written (c ∷ text) held e = absurd (omega arith)

left : (a b : Bool) → (a && b) ≡ true → a ≡ true
left true b e = refl
left false b e = e

pub dash-written : (text held : List ℕ) → is_none text ≡ true → held ≡ written text held
unfolding is_none
dash-written text held e =
    let one : length text ≡ 1 = eqb-true _ _ (left (eqb (length text) 1) (eqb (get_or text 0 0) 45) e) in
    (texts.none text held (texts.odd text (rw one (λ z. omega arith)))).1
