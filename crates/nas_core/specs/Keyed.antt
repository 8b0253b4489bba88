-- What a context does with its keys: the code of octets, ciphering them, and the octets that both make behind a header
-- (TS 24.501 4.4.3.3, 4.4.4, 4.4.5; TS 33.501 6.4.3).
use Rattle.std.specs.Prelude.{ℕ, ◌%◌, Bool, cond, not, ◌&&◌, List, ◌∷◌, ◌++◌, eqb}
use Rattle.aes.specs.declared.Key.{Key}
use Rattle.algorithms.specs.Codes.{code_of, cipher_of}
use Rattle.nas_core.specs.declared.Core.{Core}

abbrev pub core_with : ℕ → ℕ → Key → Key → ℕ → Core
core_with i c ik ck n =
    record { integrity = i; ciphering = c; integrity_key = ik; ciphering_key = ck; size = n }

-- null integrity: COUNTs go round, every received code passes
unfoldable pub wraps : Core → Bool
wraps x = eqb x.integrity 0

-- from integrity 0 to another code
unfoldable pub away_from_null : ℕ → ℕ → Bool
away_from_null from to = eqb from 0 && not (eqb to 0)

-- the code of octets under COUNT c, bearer b and direction d
unfoldable pub code_by : Core → ℕ → ℕ → ℕ → List ℕ → List ℕ
code_by x c b d m = code_of x.integrity x.integrity_key c b d m

-- a payload as sent, and as read again
unfoldable pub payload : Core → Bool → ℕ → ℕ → ℕ → List ℕ → List ℕ
payload x ciphered c b d m = cond ciphered (cipher_of x.ciphering x.ciphering_key c b d m) m

-- a payload as sent behind the last octet of its COUNT, and the code of both in front
unfoldable pub protected : Core → ℕ → ℕ → ℕ → List ℕ → List ℕ
protected x c b d m = code_by x c b d (c % 256 ∷ m) ++ (c % 256 ∷ m)
