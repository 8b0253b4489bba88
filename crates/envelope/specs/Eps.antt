-- The octets of an EPS message under a 5GS context (document 01, "The octets"; TS 33.501 8.5.2 and 8.5.3).
use Rattle.std.specs.Prelude.{ℕ, Bool, not, ◌&&◌, ◌||◌, List, ◌∷◌, length, get_or, leb, eqb}
use Rattle.nas_core.specs.declared.Core.{Core}
use Rattle.nas_core.specs.Keyed.{protected}

-- bearer and direction: 3GPP access, uplink
abbrev pub eps_bearer : ℕ
eps_bearer = 1

abbrev pub eps_direction : ℕ
eps_direction = 0

-- 12: not 07 41 (attach request) or 07 48 (tracking area update request)
unfoldable pub not_eps : List ℕ → Bool
not_eps m = not (leb 2 (length m) && eqb (get_or m 0 0) 0x07 && (eqb (get_or m 1 0) 0x41 || eqb (get_or m 1 0) 0x48))

-- 17, the code, the last octet of COUNT c, the plain message
unfoldable pub eps_message : Core → ℕ → List ℕ → List ℕ
eps_message x c inner = 0x17 ∷ protected x c eps_bearer eps_direction inner
