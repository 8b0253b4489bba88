-- The octets of a protected 5GS message (document 01, "The octets"; TS 24.501 9.1.1, 9.3).
use Rattle.std.specs.Prelude.{ℕ, List, ◌∷◌}
use Rattle.nas_core.specs.declared.Core.{Core}
use Rattle.nas_core.specs.Keyed.{payload, protected}
unfoldable pub use Rattle.nas_core.specs.Types.{wrong_type, ciphers}
pub use Rattle.nas_core.specs.Leaves.{over}

-- 7E, the header type, the code, the last octet of COUNT c, the payload
unfoldable pub envelope : Core → ℕ → ℕ → ℕ → ℕ → List ℕ → List ℕ
envelope x t c b d inner = 0x7E ∷ t ∷ protected x c b d (payload x (ciphers t) c b d inner)
