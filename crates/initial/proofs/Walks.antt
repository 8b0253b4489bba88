-- The walk step by step, and what is found on the way.
use mathlib.Core.Path.{◌≡◌, refl, ap, sym, ◌∙◌}
use mathlib.Core.Bool.{Bool, true, false, cond}
use mathlib.Core.List.{List, []}
use Prim.Native.Nat.{ℕ, zero, suc, ◌+◌, ◌-◌, ◌≤◌, ◌<◌}
use native.Mathlib.Omega.{arith}
use lib.Dec.{leb, eqb}
use lib.ListN.{length, get_or, take, drop, length-drop}
use lib.Seq.{take_all}
use borrow.Author.Tests.{le-leb, lt-leb}
use Rattle.initial.specs.declared.Format.{Format}
use Rattle.initial.specs.declared.Format.TheVariants.{Single, Tlv, Tlve}
use Rattle.std.specs.Prelude.{Option, Some, None, Result, Ok, Err}
use Rattle.std.specs.Option.{option_or}
use Rattle.std.specs.Bool.{then_some}
use Rattle.initial.specs.declared.Span.{Span}
use Rattle.initial.specs.declared.Unwalkable.{Unwalkable}
use Rattle.initial.specs.Parts.{format_of, head_of, head_length, part_length}
use Rattle.initial.specs.Walk.{Part, part, Walk, fails, parts, ◌before◌, part_of, end_at, walk_from, span, first_in, container_in}

pub head-some : (f : Format) → 1 ≤ head_of f
head-some Single = omega arith
head-some Tlv = omega arith
head-some Tlve = omega arith

-- a part has at least one octet
pub some : (l : List ℕ) → 1 ≤ part_length l
unfolding part_length head_length
some l = omega (arith, head-some (format_of (get_or l 0 0)))

module _ (m : List ℕ) where
  -- behind the last octet
  pub done : (n at : ℕ) → length m ≤ at → walk_from m n at ≡ parts []
  unfolding walk_from
  done zero at h = refl
  done (suc n) at h = simp (le-leb _ _ h)

  -- as many steps as octets are enough
  pub enough : (j k at : ℕ) → length m ≤ j + at → length m ≤ k + at → walk_from m j at ≡ walk_from m k at
  unfolding walk_from
  enough zero k at h g = sym (done k at (omega arith))
  enough (suc j) zero at h g = done (suc j) at (omega arith)
  enough (suc j) (suc k) at h g =
      ap
      (λ (w : Walk).
      cond (leb (length m) at) (parts [])
      (cond (leb (end_at m at) (length m)) (part_of at (drop at m) before w) fails))
      (enough j k (end_at m at) (omega (arith, some (drop at m))) (omega (arith, some (drop at m))))

  pub step : (at : ℕ) → at < length m → end_at m at ≤ length m
      → walk_from m (length m) at ≡ part_of at (drop at m) before walk_from m (length m) (end_at m at)
  unfolding walk_from
  step at h g = enough (length m) (suc (length m)) at (omega arith) (omega arith) ∙ simp (lt-leb _ _ h, le-leb _ _ g)

  pub stop : (at : ℕ) → at < length m → length m < end_at m at → walk_from m (length m) at ≡ fails
  unfolding walk_from
  stop at h g = enough (length m) (suc (length m)) at (omega arith) (omega arith) ∙ simp (lt-leb _ _ h, lt-leb _ _ g)

-- what is found so far, and behind it
abbrev pub more : Option Span → Walk → Result (Option Span) Unwalkable
more found fails = Err (record {})
more found (parts ps) = Ok (option_or found (first_in ps))

pub from-none : (w : Walk) → more None w ≡ container_in w
from-none fails = refl
from-none (parts ps) = refl

pub no_more : (found : Option Span) → more found (parts []) ≡ Ok found
no_more None = refl
no_more (Some s) = refl

one_more : (b : Bool) (found : Option Span) (s : Span) (ps : List Part)
    → more (option_or found (then_some b s)) (parts ps) ≡ Ok (option_or found (cond b (Some s) (first_in ps)))
one_more b (Some t) s ps = refl
one_more true None s ps = refl
one_more false None s ps = refl

pub keeps : (found : Option Span) (i s n : ℕ) (w : Walk)
    → more (option_or found (then_some (eqb i 0x71) (span s n))) w ≡ more found (part i s n before w)
keeps found i s n fails = refl
keeps found i s n (parts ps) = one_more (eqb i 0x71) found (span s n) ps

-- what `&m[at..]` shows is the rest from there on
pub rest : (at : ℕ) (m : List ℕ) → take (length m - at) (drop at m) ≡ drop at m
rest at m =
    let h : length (drop at m) ≤ length m - at = simp length-drop (omega arith) in take_all (length m - at) (drop at m) h

pub ruleset walk_steps = (some, done, stop, step, from-none, no_more, rest, keeps)
