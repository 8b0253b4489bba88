-- A line that was read by pieces (docs/HEX-LINES.md): what is parsed is its text as far as it is held, and its octets are those of the digits that it ends with,
-- more than the program holds above 65,536.
use Rattle.std.specs.Prelude.{ℕ, ◌/◌, cond, Option, Some, None, is_some, ltb}
use Rattle.hex_parse.specs.declared.Parsed.{Parsed}
use Rattle.hex_parse.specs.Parsed.{with}

unfoldable pub octets_in : ℕ → Option ℕ
octets_in digits = cond (ltb 65536 (digits / 2)) None (Some (digits / 2))

unfoldable pub ended : {C : Type 0} {N : ℕ} → Parsed C N → ℕ → Parsed C N
ended l digits = cond (is_some l.from) (with (octets_in digits) l) l
