-- The security header types of a protected message (TS 24.501 9.3.1, TS 24.301 9.3.1), and the direction as the algorithms take it (TS 33.501 Annex D).
use Rattle.std.specs.Prelude.{ℕ, Bool, ◌||◌, ltb, eqb}
use Rattle.nas_core.specs.declared.Direction.{Direction}
use Rattle.nas_core.specs.declared.Direction.TheVariants.{Uplink, Downlink}

-- header types 1 to 4 protect a message
unfoldable pub wrong_type : ℕ → Bool
wrong_type t = ltb t 1 || ltb 4 t

-- types 2 and 4 cipher
unfoldable pub ciphers : ℕ → Bool
ciphers t = eqb t 2 || eqb t 4

abbrev pub direction_no : Direction → ℕ
direction_no Uplink = 0
direction_no Downlink = 1
