-- The calls for C over an EPS context.
use Rattle.std.specs.Prelude.{ℕ, cond, List}
use Rattle.nas_core.specs.Leaves.{Leaves}
use Rattle.nas_eps.specs.declared.Context.{Context}
use Rattle.nas_core.specs.declared.Direction.{Direction}
use Rattle.nas_eps.specs.Leaves.{leaves, Values, change_values, use_values, open_values}
use Rattle.nas_eps.specs.Places.{place_of, next_at}
use Rattle.nas_eps.specs.Changes.{new_of, restore_of, reselect_of, window_of}
use Rattle.nas_eps.specs.Seal.{seal_of, service_request_of}
use Rattle.nas_eps.specs.Open.{open_of}
use Rattle.nas_c.specs.declared.Shown.{Shown}
use Rattle.nas_c.specs.Numbers.{no_direction, direction_of, no_count, shown_with, shown, no_such_way, numbers}

-- a call of one direction, or what stands for it if there is none
abbrev pub way_or : {R : Type 0} → ℕ → R → (Direction → R) → R
way_or d none call = cond (no_direction d) none (call (direction_of d))

-- there is no refusal 8: the number that an answer carries is a SERVICE REQUEST's identifier, shown as the octet
abbrev pub shown_open : Values → Shown
shown_open v = shown_with 0 v.carried v

unfoldable pub new_numbers : ℕ → ℕ → List ℕ → List ℕ → Leaves Context Shown
new_numbers i c ik ck = numbers shown change_values (new_of i c ik ck)

unfoldable pub restore_numbers : ℕ → ℕ → List ℕ → List ℕ → ℕ → ℕ → Leaves Context Shown
restore_numbers i c ik ck up down = numbers shown change_values (restore_of i c ik ck up down)

unfoldable pub reselect_numbers : Context → ℕ → ℕ → List ℕ → List ℕ → Leaves Context Shown
reselect_numbers x i c ik ck = numbers shown change_values (reselect_of x i c ik ck)

unfoldable pub window_numbers : Context → ℕ → Leaves Context Shown
window_numbers x n = numbers shown change_values (window_of x n)

unfoldable pub next_count_number : Context → ℕ → ℕ
next_count_number x d = way_or d no_count (λ d. next_at x (place_of d))

unfoldable pub seal_numbers : Context → ℕ → ℕ → List ℕ → List ℕ → Leaves Context Shown
seal_numbers x t d inner out =
    way_or d (leaves no_such_way x out) (λ d. numbers shown use_values (seal_of x t d inner out))

unfoldable pub request_numbers : Context → ℕ → List ℕ → Leaves Context Shown
request_numbers x i out = numbers shown use_values (service_request_of x i out)

unfoldable pub open_numbers : Context → ℕ → List ℕ → List ℕ → Leaves Context Shown
open_numbers x d m out =
    way_or d (leaves no_such_way x out) (λ d. numbers shown_open open_values (open_of x d m out))
