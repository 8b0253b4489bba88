-- The container's message on opening p (document 02, item 9): asked for under header type 1, uplink, of an initial message.
use Rattle.std.specs.Prelude.{ℕ, Bool, true, false, cond, not, ◌&&◌, List, [], eqb, take, drop, Option, Some, None, Result, Ok, Err}
use Rattle.look.specs.Look.{is_of, look_of}
use Rattle.initial.specs.declared.Span.{Span}
use Rattle.initial.specs.declared.Unwalkable.{Unwalkable}
use Rattle.initial.specs.Messages.{is_initial, type_of}
use Rattle.initial.specs.Walk.{container_of}

-- header type t, direction d
unfoldable pub is_asked : ℕ → ℕ → List ℕ → Bool
is_asked t d p = eqb t 1 && eqb d 0 && is_initial p

-- q passes the look and has p's type
unfoldable pub is_inside : List ℕ → List ℕ → Bool
is_inside p q = is_of (type_of p) q && eqb (look_of 1 0 q) 0

-- 18, or the octets handed over beside p: none where p has no container
pub data Hidden : Type 0 where
  refused : Hidden
  handed : List ℕ → Hidden

abbrev pub value_at : List ℕ → ℕ → ℕ → List ℕ
value_at p start n = take n (drop start p)

abbrev pub of_type : List ℕ → List ℕ → Hidden
of_type p q = cond (is_inside p q) (handed q) refused

-- f deciphers
abbrev pub hidden_in : (List ℕ → List ℕ) → List ℕ → Result (Option Span) Unwalkable → Hidden
hidden_in f p (Err e) = refused
hidden_in f p (Ok None) = handed []
hidden_in f p (Ok (Some s)) = of_type p (f (value_at p s.start s.length))

unfoldable pub hidden_of : ℕ → ℕ → (List ℕ → List ℕ) → List ℕ → Hidden
hidden_of t d f p = cond (is_asked t d p) (hidden_in f p (container_of p)) (handed [])

-- of an initial message sealed as it is: the walk of its octets fails, or their container deciphered is no message of their type
abbrev pub no_message : (List ℕ → List ℕ) → List ℕ → Result (Option Span) Unwalkable → Bool
no_message f p (Err e) = true
no_message f p (Ok None) = false
no_message f p (Ok (Some s)) = not (is_of (type_of p) (f (value_at p s.start s.length)))

unfoldable pub ends_in18 : (List ℕ → List ℕ) → List ℕ → Bool
ends_in18 f p = no_message f p (container_of p)
