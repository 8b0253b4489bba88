-- An algorithm by its code, TS 24.501 Table 9.11.3.34.1; document 01, "Words", with document 02, items 2 and 13: codes 0 to 3 are built.
-- A code that is not built does as null does; every call on a context refuses it first.
use Rattle.std.specs.Prelude.{ℕ, Bool, cond, List, [], ◌∷◌, eqb, ltb}
use Rattle.aes.specs.Keys.{nia2_by, nea2_by}
use Rattle.aes.specs.declared.Key.{Key}
use Rattle.snow3g.specs.Uea2.{nea1_of}
use Rattle.snow3g.specs.Uia2.{nia1_of}
use Rattle.zuc.specs.Ciphering.{nea3_of}
use Rattle.zuc.specs.Integrity.{nia3_of}

unfoldable pub is_built : ℕ → Bool
is_built n = ltb n 4

-- null, or what codes 1, 2 and 3 name
abbrev pub by_code : {A : Type 0} → ℕ → A → A → A → A → A
by_code n null one two three = cond (eqb n 1) one (cond (eqb n 2) two (cond (eqb n 3) three null))

-- an algorithm that takes the 16 octets of a key as they are
abbrev pub keyed : {A : Type 0} → (List ℕ → A) → Key → A
keyed f key = f key.octets

-- the code of a message, by key, COUNT, bearer and direction; null makes four zero octets
unfoldable pub code_of : ℕ → Key → ℕ → ℕ → ℕ → List ℕ → List ℕ
code_of n = by_code n (λ key c b d m. 0 ∷ 0 ∷ 0 ∷ 0 ∷ []) (keyed nia1_of) nia2_by (keyed nia3_of)

-- the octets ciphered; null changes none
unfoldable pub cipher_of : ℕ → Key → ℕ → ℕ → ℕ → List ℕ → List ℕ
cipher_of n = by_code n (λ key c b d m. m) (keyed nea1_of) nea2_by (keyed nea3_of)
