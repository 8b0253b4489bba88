-- The message that goes out: its length, its front, its walk.
use mathlib.Core.Path.{◌≡◌, ap, sym, ◌∙◌}
use mathlib.Core.Bool.{true, false}
use mathlib.Core.List.{List, [], ◌∷◌, ◌++◌, append_assoc}
use Prim.Native.Nat.{ℕ, ◌+◌, ◌/◌, ◌%◌, ◌≤◌, ◌<◌}
use native.Mathlib.Omega.{arith}
use lib.ListN.{length, get_or, take, drop, length-append}
use lib.Seq.{take-append-le, take-take, take-length, get_or-take, drop_at, length-take-le}
use borrow.Author.Tests.{le-leb}
use Rattle.std.proofs.lemmas.Bool.{cases_Bool}
use Rattle.std.proofs.lemmas.Bool.Decides.{nat_tests}
use mathlib.Core.Logic.{⊎_elim}
use Rattle.initial.specs.Messages.{mandatory_length, is_whole}
use Rattle.initial.specs.Parts.{format_of, head_length, value_length, part_length}
use Rattle.initial.specs.Walk.{Walk, part, parts, ◌before◌, part_of, end_at, walk_from, walk_of}
use Rattle.initial.specs.Outer.{hides, front_of, outer_of, outer_length}
use Rattle.initial.specs.Inside.{value_at}
use Rattle.initial.proofs.Walks.{step, done}

-- the part that a container is: its length reads back
container-value : (v : List ℕ) → value_length (0x71 ∷ length v / 256 ∷ length v % 256 ∷ v) ≡ length v
unfolding value_length format_of
container-value v = omega arith

container-length : (v : List ℕ) → part_length (0x71 ∷ length v / 256 ∷ length v % 256 ∷ v) ≡ 3 + length v
unfolding part_length head_length format_of
container-length v = omega (arith, container-value v)

pub no-shorter : (w : List ℕ) → length w ≤ outer_length w
unfolding outer_length
no-shorter w = grind (arith, nat_tests)

module _ (w v : List ℕ) (whole : mandatory_length w ≤ length w) where
  front_length : length (front_of w (length v)) ≡ mandatory_length w + 3
  unfolding front_of
  front_length =
      length-append (take (mandatory_length w) w) (0x71 ∷ length v / 256 ∷ length v % 256 ∷ [])
      ∙ omega (arith, length-take-le (mandatory_length w) w whole)

  pub length-is : length v ≡ length w → length (outer_of w v) ≡ outer_length w
  unfolding outer_of outer_length
  length-is e = grind (arith, front_length, length-append (front_of w (length v)) v)

  made : hides w ≡ true → outer_of w v ≡ front_of w (length v) ++ v
  unfolding outer_of
  made t = simp t

  pub front : (n : ℕ) → n ≤ mandatory_length w → take n (outer_of w v) ≡ take n w
  unfolding outer_of front_of
  front n h =
      let k : length (take (mandatory_length w) w) ≡ mandatory_length w = length-take-le (mandatory_length w) w whole in
      ⊎_elim
      (λ (t : hides w ≡ true).
      simp t
      (take-append-le n (front_of w (length v)) v (omega (arith, front_length))
      ∙ take-append-le n (take (mandatory_length w) w) (0x71 ∷ length v / 256 ∷ length v % 256 ∷ []) (omega arith)
      ∙ take-take n (mandatory_length w) w h))
      (λ (t : hides w ≡ false). simp t)
      (cases_Bool (hides w))

  -- an octet of the mandatory part
  pub octet : (i : ℕ) → i < mandatory_length w → get_or (outer_of w v) i 0 ≡ get_or w i 0
  octet i h =
      sym (get_or-take (mandatory_length w) (outer_of w v) i 0 h)
      ∙ ap (λ (l : List ℕ). get_or l i 0) (front (mandatory_length w) (omega arith))
      ∙ get_or-take (mandatory_length w) w i 0 h

  six : 6 ≤ mandatory_length w
  unfolding mandatory_length
  six = omega arith

  pub mandatory : mandatory_length (outer_of w v) ≡ mandatory_length w
  unfolding mandatory_length
  mandatory = simp (octet 4 (omega (arith, six)), octet 5 (omega (arith, six)))

  module _ (hidden : hides w ≡ true) where
    -- what stands behind the mandatory part
    behind : drop (mandatory_length w) (outer_of w v) ≡ 0x71 ∷ length v / 256 ∷ length v % 256 ∷ v
    unfolding front_of
    behind =
        ap (λ (l : List ℕ). drop (mandatory_length w) l) (made hidden ∙ append_assoc (take (mandatory_length w) w) (0x71 ∷ length v / 256 ∷ length v % 256 ∷ []) v)
        ∙ drop_at (take (mandatory_length w) w) (0x71 ∷ length v / 256 ∷ length v % 256 ∷ v) (mandatory_length w) (length-take-le (mandatory_length w) w whole)

    all : length (outer_of w v) ≡ mandatory_length w + 3 + length v
    all = ap length (made hidden) ∙ length-append (front_of w (length v)) v ∙ omega (arith, front_length)

    pub value : value_at (outer_of w v) (mandatory_length w + 3) (length v) ≡ v
    value =
        ap (λ (l : List ℕ). take (length v) (drop (mandatory_length w + 3) l)) (made hidden)
        ∙ ap (λ (l : List ℕ). take (length v) l) (drop_at (front_of w (length v)) v (mandatory_length w + 3) front_length)
        ∙ take-length v

    -- it walks to one part, the container
    pub walk : walk_of (outer_of w v) ≡ parts (part 0x71 (mandatory_length w + 3) (length v) ∷ [])
    unfolding walk_of is_whole head_length format_of
    walk =
        let s = outer_of w v in
        let n = mandatory_length w in
        let fits : mandatory_length s ≤ length s = omega (arith, mandatory, all) in
        let end : end_at s n ≡ length s = ap (λ (z : List ℕ). n + part_length z) behind ∙ omega (arith, container-length v, all) in
        simp (le-leb _ _ fits)
        (ap (λ (k : ℕ). walk_from s (length s) k) mandatory
        ∙ step s n (omega (arith, all)) (omega arith)
        ∙ ap (λ (z : Walk). part_of n (drop n s) before z) (done s (length s) (end_at s n) (omega arith))
        ∙ ap (λ (z : List ℕ). parts (part_of n z ∷ [])) behind
        ∙ ap (λ (k : ℕ). parts (part 0x71 (n + 3) k ∷ [])) (container-value v))
