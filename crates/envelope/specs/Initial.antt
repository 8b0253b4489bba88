-- Initial messages under a context's keys (document 02, item 9; TS 24.501 4.4.6): what goes out for one, and what is inside one that came in.
use Rattle.std.specs.Prelude.{ℕ, Bool, true, false, List, [], length, Result, Ok, Err}
use Rattle.nas_core.specs.declared.Core.{Core}
use Rattle.nas_core.specs.Keyed.{payload}
use Rattle.initial.specs.Outer.{outer_of}
use Rattle.initial.specs.Inside.{Hidden, refused, handed, hidden_of}
use Rattle.refusals.specs.declared.Refusal.{Refusal}
use Rattle.refusals.specs.declared.Refusal.TheVariants.{Container}
use Rattle.envelope.specs.Envelope.{envelope}

-- the whole message w as it goes out: the value of its container is w ciphered, uplink, with the COUNT of the message around it
unfoldable pub outgoing : Core → ℕ → ℕ → List ℕ → List ℕ
outgoing x c b w = outer_of w (payload x true c b 0 w)

-- always header type 1, uplink
unfoldable pub initial_envelope : Core → ℕ → ℕ → List ℕ → List ℕ
initial_envelope x c b w = envelope x 1 c b 0 (outgoing x c b w)

-- the container's message of plaintext p, which came under COUNT c, header type t and direction d
unfoldable pub beside_of : Core → ℕ → ℕ → ℕ → ℕ → List ℕ → Hidden
beside_of x t c b d p = hidden_of t d (λ v. payload x true c b 0 v) p

-- its octets, and none where it is refused
abbrev pub beside : Hidden → List ℕ
beside refused = []
beside (handed q) = q

-- 18
abbrev pub is_refused : Hidden → Bool
is_refused refused = true
is_refused (handed q) = false

-- what is answered of it: 18, or how many octets it has
abbrev pub told : Hidden → Result ℕ Refusal
told refused = Err Container
told (handed q) = Ok (length q)
