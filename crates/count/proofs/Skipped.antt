-- How far away a candidate is.
use Rattle.std.specs.Prelude.{Some}
use Prim.Native.Nat.{ℕ, ◌+◌, ◌-◌, ◌%◌, ◌^◌, ◌≤◌, ◌<◌}
use mathlib.Core.Path.{◌≡◌, sym, ◌∙◌}
use mathlib.Core.Bool.{Bool}
use mathlib.Core.Logic.{inl, inr}
use native.Mathlib.Omega.{arith}
use lib.Pow.{pow_mono}
use borrow.Author.Tests.{le-leb, lt-leb}
use Rattle.count.specs.Rule.{exhausted, distance, distance_of, forward_of}
use Rattle.count.specs.Facts.{DistancesHold}
use Rattle.count.specs.declared.Record.{Record}
use Rattle.count.proofs.Distance.{le-or-lt, distance-lt}
use Rattle.count.proofs.Candidates.{never, up, forward-over, forward-found, reached-up, at_open, late-found}

module _ (r : Record) (c : ℕ) where
  pub distance-ahead : r.next ≤ c → distance_of r c ≡ c - r.next
  unfolding distance_of
  distance-ahead h = simp (le-leb r.next c h)

  pub distance-below : c < r.next → r.next - 1 - c ≤ 64 → distance_of r c ≡ r.next - 1 - c
  unfolding distance_of
  distance-below h l = simp (lt-leb r.next c h, le-leb (r.next - 1 - c) 64 l)

  pub distance-round : c < r.next → 64 < r.next - 1 - c → distance_of r c ≡ c + exhausted - r.next
  unfolding distance_of
  distance-round h l = simp (lt-leb r.next c h, lt-leb (r.next - 1 - c) 64 l)

-- a record with a forward candidate is not exhausted
pub forward-next : (k : ℕ) (wraps : Bool) (r : Record) (s c : ℕ) → forward_of k wraps r s ≡ Some c → r.next < exhausted
forward-next k wraps r s c e =
    elim (le-or-lt exhausted r.next) [ inl h ↦ never (sym (forward-over k wraps r s h) ∙ e) | inr h ↦ h ]

module _ (k : ℕ) (r : Record) (s c : ℕ) (small : k ≤ 23) (more : r.next < exhausted) where
  reached : c ≡ up k r s % exhausted → distance_of r c ≡ distance k r.next s
  reached e =
      let d = distance-lt k r.next s in
      let m : 2 ^ k ≤ 2 ^ 23 = pow_mono small in
      elim (le-or-lt exhausted (up k r s)) [
        | inl h ↦ distance-round r c (omega arith) (omega arith) ∙ omega arith
        | inr h ↦ distance-ahead r c (omega arith) ∙ omega arith
      ]

pub distances : DistancesHold
distances k r s =
    record {
      forward = λ wraps c small e.
          let more = forward-next k wraps r s c e in
          let f = forward-found k wraps r s c e in
          let q : c ≡ up k r s % exhausted =
          elim f.1 [
            | inl t ↦ let u = reached-up k r s c t in omega arith
            | inr t ↦ t.1
          ] in
          let d = reached k r s c small more q in
          (d, rw d (sym q));
      late = λ size c small e.
          let a = at_open size r (r.next - 1 - c) (late-found k size r s c e).0 in
          rw (distance-below r c (omega arith) (omega arith)) (omega arith);
    }
