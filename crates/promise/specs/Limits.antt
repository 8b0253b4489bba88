-- What a context holds stays within its limits, whatever its integrity: next COUNTs at most 16,777,216, a size at most 64.
use Rattle.std.specs.Prelude.{ℕ, ◌≤◌, ◌<◌, length}
use Rattle.count.specs.Rule.{exhausted}
use Rattle.count.specs.Run.{Act, stay, uses, resize, close, forward, late, round}
use Rattle.count.specs.Machine.{Machine, view, Acting}

-- a COUNT used forward is one, and a new size is at most 64
abbrev pub Bounded : Act → Type 0
Bounded stay = Unit {0}
Bounded (uses forward c) = c < exhausted
Bounded (uses late c) = Unit {0}
Bounded (uses round c) = Unit {0}
Bounded (resize n) = n ≤ 64
Bounded close = Unit {0}

pub record InLimits {X C : Type 0} (T : Machine X C) (x : X) : Type 0 where
  pub small : T.size x ≤ 64
  pub counts : (p : ℕ) → p < length (T.records x) → (view T p x).at.next ≤ exhausted

abbrev pub LimitsKept : Type 1
LimitsKept =
    (X C : Type 0) (T : Machine X C) (Shape : X → Type 0) → Acting T Shape
    → (k : C) (x : X) → Shape x → Bounded (T.does k x) → InLimits T x → InLimits T (T.gives k x)
