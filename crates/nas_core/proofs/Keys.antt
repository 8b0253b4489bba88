-- The lengths of what the keys make, and a context's codes and size where they are not refused.
use mathlib.Core.Path.{◌≡◌, refl, ◌∙◌}
use mathlib.Core.Bool.{Bool, true, false, not, ◌||◌}
use mathlib.Core.List.{List, ◌∷◌}
use Prim.Native.Nat.{ℕ, ◌+◌, ◌%◌, ◌≤◌}
use native.Mathlib.Omega.{arith}
use lib.ListN.{length, take, length-append}
use lib.Dec.{lit<}
use borrow.Author.Tests.{ltb-false}
use Rattle.algorithms.specs.Codes.{is_built}
use Rattle.algorithms.proofs.Laws.{built-small, code-length, cipher-length, cipher-twice}
use Rattle.algorithms.proofs.Prefix.{cipher-prefix}
use Rattle.refusals.proofs.Laws.{passed, off}
use Rattle.nas_core.specs.declared.Core.{Core}
use Rattle.nas_core.specs.Refusals.{unbuilt, core_refusals, core_fault}
use Rattle.nas_core.specs.Keyed.{code_by, payload, protected}

module _ (x : Core) (c b d : ℕ) (m : List ℕ) where
  pub code-by-length : length (code_by x c b d m) ≡ 4
  unfolding code_by
  code-by-length = code-length x.integrity x.integrity_key c b d m

  pub payload-length : (t : Bool) → length (payload x t c b d m) ≡ length m
  unfolding payload
  payload-length true = cipher-length x.ciphering x.ciphering_key c b d m
  payload-length false = refl

  -- a payload read as it was sent is the payload
  pub payload_twice : (t : Bool) → payload x t c b d (payload x t c b d m) ≡ m
  unfolding payload
  payload_twice true = cipher-twice x.ciphering x.ciphering_key c b d m
  payload_twice false = refl

  -- its first octets are read as if no others followed
  pub payload-prefix : (t : Bool) (n : ℕ) → payload x t c b d (take n m) ≡ take n (payload x t c b d m)
  unfolding payload
  payload-prefix true n = cipher-prefix x.ciphering_key c b d m n x.ciphering
  payload-prefix false n = refl

pub protected-length : (x : Core) (c b d : ℕ) (m : List ℕ) → length (protected x c b d m) ≡ 5 + length m
unfolding protected
protected-length x c b d m =
    length-append (code_by x c b d (c % 256 ∷ m)) (c % 256 ∷ m) ∙ omega (arith, code-by-length x c b d (c % 256 ∷ m))

-- the two codes, where neither is unbuilt
neither : (s t : Bool) → not s || not t ≡ false → (s ≡ true) × (t ≡ true)
neither true true e = (refl, refl)
neither true false e = absurd (let z : ◌≡◌ {A = ℕ} 0 1 = cc in omega arith)
neither false t e = absurd (let z : ◌≡◌ {A = ℕ} 0 1 = cc in omega arith)

-- what passes 13 and 14
pub core-passed : (x : Core) → core_fault x ≡ 0 → (x.integrity ≤ 15) × (x.ciphering ≤ 15) × (x.size ≤ 64)
unfolding core_fault unbuilt
core-passed x e =
    let s = neither (is_built x.integrity) (is_built x.ciphering) (off 13 _ (lit< tt) (passed (core_refusals x) e 0)) in
    (built-small x.integrity s.0, built-small x.ciphering s.1, ltb-false _ _ (off 14 _ (lit< tt) (passed (core_refusals x) e 1)))
