-- "Keep the expanded keys and the two CMAC subkeys in the context, made at creation, restore and reselection. It must always hold that they are those of the
-- stored keys, and calls may rely on it. Answers do not change."
use Rattle.std.specs.Prelude.{ℕ, ◌≡◌, Bool, cond, List, [], ◌∷◌, length}
use Rattle.aes.specs.Nas.{nia2_of, nea2_of}
use Rattle.aes.specs.Keys.{Kept}
use Rattle.snow3g.specs.Uea2.{nea1_of}
use Rattle.snow3g.specs.Uia2.{nia1_of}
use Rattle.zuc.specs.Ciphering.{nea3_of}
use Rattle.zuc.specs.Integrity.{nia3_of}
use Rattle.algorithms.specs.Codes.{by_code}
use Rattle.nas_core.specs.Keyed.{code_by, payload}
use Rattle.nas_5gs.specs.declared.Context.{Context}
use Rattle.promises.specs.Calls.{Making, makes, Call, gives}

-- what a context keeps with its keys is their own
pub record KeptIn (x : Context) : Type 0 where
  pub integrity : Kept x.core.integrity_key
  pub ciphering : Kept x.core.ciphering_key

pub record Always : Type 0 where
  -- "made at creation, restore": refused ones too
  pub made : (m : Making) → KeptIn (makes m).context
  -- "it must always hold": after every call, reselection among them, refused or not
  pub after : (k : Call) (x : Context) → length x.records ≡ 4 → KeptIn x → KeptIn (gives k x).context
  -- "answers do not change": what the calls make with the keys is what the standards make with the 16 octets
  pub codes : (x : Context) → KeptIn x → (c b d : ℕ) (m : List ℕ)
      → let k = x.core.integrity_key.octets in
      code_by x.core c b d m ≡ by_code x.core.integrity (0 ∷ 0 ∷ 0 ∷ 0 ∷ []) (nia1_of k c b d m) (nia2_of k c b d m) (nia3_of k c b d m)
  pub payloads : (x : Context) → KeptIn x → (t : Bool) (c b d : ℕ) (m : List ℕ)
      → let k = x.core.ciphering_key.octets in
      payload x.core t c b d m ≡ cond t (by_code x.core.ciphering m (nea1_of k c b d m) (nea2_of k c b d m) (nea3_of k c b d m)) m
