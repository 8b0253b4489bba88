-- Where a container lies, and what a walk that succeeds says of the message.
use mathlib.Core.Path.{◌≡◌, refl, sym, subst}
use mathlib.Core.Bool.{Bool, true, false, cond}
use mathlib.Core.List.{List, []}
use Prim.Native.Nat.{ℕ, zero, suc, ◌+◌, ◌≤◌, ◌<◌}
use native.Mathlib.Omega.{arith}
use lib.Dec.{leb, eqb}
use lib.ListN.{length, get_or, drop}
use borrow.Author.Tests.{leb-true}
use Rattle.std.specs.Prelude.{Option, Some, None, Result, Ok, Err, IfOk, IfSome}
use Rattle.initial.specs.declared.Span.{Span}
use Rattle.initial.specs.declared.Unwalkable.{Unwalkable}
use Rattle.initial.specs.Messages.{mandatory_length, is_whole}
use Rattle.initial.specs.Parts.{format_of, head_length, value_length, part_length}
use Rattle.initial.specs.Walk.{Walk, fails, parts, ◌before◌, part_of, end_at, walk_from, walk_of, span, first_in, container_in, container_of}
use Rattle.initial.specs.Outer.{is_absent, is_hideable}
use Rattle.initial.proofs.Walks.{head-some}

-- behind octet `at`, in the message
abbrev Lies : List ℕ → ℕ → Result (Option Span) Unwalkable → Type 0
Lies m at (Err e) = Unit {0}
Lies m at (Ok None) = Unit {0}
Lies m at (Ok (Some s)) = (at < s.start) × (s.start + s.length ≤ length m)

weaker : (m : List ℕ) (at to : ℕ) (c : Option Span) → at ≤ to → Lies m to (Ok c) → Lies m at (Ok c)
weaker m at to None h l = tt
weaker m at to (Some s) h l = (omega arith, l.1)

module _ (m : List ℕ) (at : ℕ) where
  one : (b : Bool) (c : Option Span) → end_at m at ≤ length m → Lies m (end_at m at) (Ok c)
      → Lies m at (Ok (cond b (Some (span (at + head_length (drop at m)) (value_length (drop at m)))) c))
  unfolding head_length part_length
  one true c h l = (omega (arith, head-some (format_of (get_or (drop at m) 0 0))), omega arith)
  one false c h l = weaker m at (end_at m at) c (omega arith) l

  turn : (w : Walk) → end_at m at ≤ length m → Lies m (end_at m at) (container_in w) → Lies m at (container_in (part_of at (drop at m) before w))
  turn fails h l = tt
  turn (parts ps) h l = one (eqb (get_or (drop at m) 0 0) 0x71) (first_in ps) h l

  both : (a b : Bool) (w : Walk) → leb (end_at m at) (length m) ≡ b → Lies m (end_at m at) (container_in w)
      → Lies m at (container_in (cond a (parts []) (cond b (part_of at (drop at m) before w) fails)))
  both true b w e l = tt
  both false false w e l = tt
  both false true w e l = turn w (leb-true _ _ e) l

lies : (m : List ℕ) (n at : ℕ) → Lies m at (container_in (walk_from m n at))
unfolding walk_from
lies m zero at = tt
lies m (suc n) at =
    both m at (leb (length m) at) (leb (end_at m at) (length m)) (walk_from m n (end_at m at)) refl (lies m n (end_at m at))

found : (m : List ℕ) (b : Bool) (w : Walk) → Lies m (mandatory_length m) (container_in w) → Lies m (mandatory_length m) (container_in (cond b w fails))
found m true w l = l
found m false w l = tt

pub within : (m : List ℕ) (start n : ℕ) → container_of m ≡ Ok (Some (span start n)) → (mandatory_length m < start) × (start + n ≤ length m)
unfolding container_of walk_of
within m start n e =
    subst (λ (c : Result (Option Span) Unwalkable). Lies m (mandatory_length m) c) e
    (found m (is_whole m) (walk_from m (length m) (mandatory_length m)) (lies m (length m) (mandatory_length m)))

reached : (b : Bool) (w : Walk) → is_absent (container_in (cond b w fails)) ≡ true → b ≡ true
reached true w e = refl
reached false w e = e

pub whole : (m : List ℕ) → is_hideable m ≡ true → mandatory_length m ≤ length m
unfolding is_hideable container_of walk_of is_whole
whole m e = leb-true _ _ (reached (is_whole m) (walk_from m (length m) (mandatory_length m)) e)

pub absent : (c : Result (Option Span) Unwalkable) → is_absent c ≡ true → c ≡ Ok None
absent (Ok None) e = refl
absent (Err x) e = cc
absent (Ok (Some s)) e = cc

-- what a call found lies in the message
pub walked : (m : List ℕ) (n at : ℕ) (c : Result (Option Span) Unwalkable) → c ≡ container_in (walk_from m n at)
    → IfOk c (λ o. IfSome o (λ s. s.start + s.length ≤ length m))
walked m n at (Err x) e = tt
walked m n at (Ok None) e = tt
walked m n at (Ok (Some s)) e = (subst (λ (c : Result (Option Span) Unwalkable). Lies m at c) (sym e) (lies m n at)).1
