-- The octets of the S1-to-N1 container (document 01, "The octets"; TS 24.501 9.11.2.9, 9.11.3.34).
use Rattle.std.specs.Prelude.{ℕ, ◌+◌, ◌*◌, ◌/◌, ◌%◌, Bool, not, ◌&&◌, List, [], ◌∷◌, ◌++◌, get_or, eqb}
use Rattle.nas_core.specs.Keyed.{code_by}
use Rattle.nas_core.specs.declared.Core.{Core}

-- bearer and direction: 3GPP access, downlink
abbrev pub container_bearer : ℕ
container_bearer = 1

abbrev pub container_direction : ℕ
container_direction = 1

-- from the fifth octet: both codes, NCC in bits 7-5 and ngKSI in bits 4-1, two zeros
abbrev pub s1_value : Core → ℕ → ℕ → List ℕ
s1_value x ncc ngksi = (x.ciphering * 16 + x.integrity) ∷ (ncc * 16 + ngksi) ∷ 0 ∷ 0 ∷ []

-- the COUNT of its code, 2 ^ 32 - 1 (TS 33.501 6.9.2.3.3)
abbrev pub s1_count : ℕ
s1_count = 4294967295

unfoldable pub s1_to_n1 : Core → ℕ → ℕ → List ℕ
s1_to_n1 x ncc ngksi =
    code_by x s1_count container_bearer container_direction (s1_value x ncc ngksi) ++ s1_value x ncc ngksi

-- 15: its algorithms are not the context's
unfoldable pub other_algorithms : Core → List ℕ → Bool
other_algorithms x v = not (eqb (get_or v 4 0 / 16) x.ciphering && eqb (get_or v 4 0 % 16) x.integrity)
