-- The octets of EPS messages (request 6; TS 24.301 4.4, 8.2.25, 9.1 to 9.6).
use Rattle.std.specs.Prelude.{ℕ, ◌+◌, ◌*◌, ◌/◌, ◌%◌, Bool, ◌||◌, List, [], ◌∷◌, ◌++◌, get_or, take, drop, eqb}
use Rattle.count.specs.Rule.{forward_only}
use Rattle.count.specs.declared.Record.{Record}
use Rattle.count.specs.Rule.{Opening}
use Rattle.nas_core.specs.declared.Core.{Core}
use Rattle.nas_core.specs.Types.{ciphers}
use Rattle.nas_core.specs.Keyed.{wraps, code_by, payload, protected}
use Rattle.nas_core.specs.Verify.{same}
use Rattle.nas_eps.specs.Places.{uplink}

-- the bearer of both algorithms (TS 33.401 8.1.1)
abbrev pub bearer : ℕ
bearer = 0

-- header type × 16 + 7, the code, the last octet of COUNT c, the payload
unfoldable pub message : Core → ℕ → ℕ → ℕ → List ℕ → List ℕ
message x t c d inner = (t * 16 + 7) ∷ protected x c bearer d (payload x (ciphers t) c bearer d inner)

-- the header type of a message
abbrev pub type_of : List ℕ → ℕ
type_of m = get_or m 0 0 / 16

-- SERVICE REQUEST
abbrev pub is_request : List ℕ → Bool
is_request m = eqb (type_of m) 12

-- C7, and identifier × 32 + COUNT mod 32
abbrev pub request_head : ℕ → ℕ → List ℕ
request_head i c = 0xC7 ∷ (i * 32 + c % 32) ∷ []

-- the low 16 bits of the code over the first two octets: the third and fourth of its four octets
unfoldable pub short_code : Core → ℕ → List ℕ → List ℕ
short_code x c m = drop 2 (code_by x c bearer uplink (take 2 m))

unfoldable pub service_request : Core → ℕ → ℕ → List ℕ
service_request x i c = request_head i c ++ short_code x c (request_head i c)

abbrev pub identifier_of : List ℕ → ℕ
identifier_of m = get_or m 1 0 / 32

-- does the code of a SERVICE REQUEST fit COUNT c
unfoldable pub short_fits : Core → ℕ → List ℕ → Bool
short_fits x c m = wraps x || same (drop 2 m) (short_code x c m)

-- what a SERVICE REQUEST is taken as: "the candidate is the least COUNT at or above next whose low 5 bits are the second octet mod 32 .. Late COUNTs are not tried"
unfoldable pub request_as : Core → Record → List ℕ → Opening
request_as x r m = forward_only 5 (wraps x) (λ c. short_fits x c m) r (get_or m 1 0 % 32)
