-- What goes out for an initial message w (TS 24.501 4.4.6): of both messages the mandatory part alone is cleartext.
use Rattle.std.specs.Prelude.{ℕ, ◌+◌, ◌/◌, ◌%◌, Bool, true, false, cond, List, [], ◌∷◌, ◌++◌, ltb, length, take, Option, Some, None, Result, Ok, Err}
use Rattle.initial.specs.declared.Span.{Span}
use Rattle.initial.specs.declared.Unwalkable.{Unwalkable}
use Rattle.initial.specs.Messages.{mandatory_length}
use Rattle.initial.specs.Walk.{container_of}

-- 18 on sealing is that it is not so: the walk fails, or there is a container already
abbrev pub is_absent : Result (Option Span) Unwalkable → Bool
is_absent (Err e) = false
is_absent (Ok None) = true
is_absent (Ok (Some s)) = false

unfoldable pub is_hideable : List ℕ → Bool
is_hideable w = is_absent (container_of w)

-- there is something to hide
unfoldable pub hides : List ℕ → Bool
hides w = ltb (mandatory_length w) (length w)

-- the mandatory part, 71, and the length of the container's value in two octets
unfoldable pub front_of : List ℕ → ℕ → List ℕ
front_of w n = take (mandatory_length w) w ++ (0x71 ∷ n / 256 ∷ n % 256 ∷ [])

-- with v, the whole of w ciphered, as the container's value
unfoldable pub outer_of : List ℕ → List ℕ → List ℕ
outer_of w v = cond (hides w) (front_of w (length v) ++ v) w

unfoldable pub outer_length : List ℕ → ℕ
outer_length w = cond (hides w) (mandatory_length w + 3 + length w) (length w)
