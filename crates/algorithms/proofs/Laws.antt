-- What holds of every code's algorithms: their lengths, octets, and that ciphering twice gives the octets back.
use Prim.Native.Nat.{ℕ, zero, suc, ◌≤◌}
use mathlib.Core.Path.{◌≡◌, refl}
use mathlib.Core.Bool.{Bool, true, false, cond}
use mathlib.Core.List.{List, [], ◌∷◌}
use native.Mathlib.Omega.{arith}
use lib.ListN.{length}
use lib.Dec.{eqb}
use borrow.Author.Tests.{ltb-true}
use Rattle.aes.specs.Keys.{nia2_by, nea2_by}
use Rattle.aes.specs.declared.Key.{Key}
use Rattle.aes.specs.Laws.{Octets}
use Rattle.aes.proofs.Laws.{nia2-length, nia2-octets, nea2-length, nea2-octets, nea2-twice}
use Rattle.streams.specs.Laws.{Laws}
use Rattle.snow3g.specs.Uea2.{nea1_of}
use Rattle.snow3g.specs.Uia2.{nia1_of}
use Rattle.snow3g.proofs.Laws.{laws as laws1}
use Rattle.zuc.specs.Ciphering.{nea3_of}
use Rattle.zuc.specs.Integrity.{nia3_of}
use Rattle.zuc.proofs.Laws.{laws as laws3}
use Rattle.algorithms.specs.Codes.{is_built, by_code, keyed, code_of, cipher_of}

-- a built code fits in four bits
pub built-small : (n : ℕ) → is_built n ≡ true → n ≤ 15
unfolding is_built
built-small n e = omega (arith, ltb-true n 4 e)

-- an algorithm
abbrev pub Algorithm : Type 0
Algorithm = Key → ℕ → ℕ → ℕ → List ℕ → List ℕ

-- what holds of each algorithm holds of the one that a code names
pub all-by_code : (P : Algorithm → Type 0) (n : ℕ) (null one two three : Algorithm) → P null → P one → P two → P three → P (by_code n null one two three)
all-by_code P n null one two three a b c d = go (eqb n 1) (eqb n 2) (eqb n 3)
  where
    go : (s t u : Bool) → P (cond s one (cond t two (cond u three null)))
    go true t u = b
    go false true u = c
    go false false true = d
    go false false false = a

-- and at the same arguments it is what that one gives
pub by_args : (n : ℕ) (null one two three : Algorithm) (key : Key) (c b d : ℕ) (m : List ℕ)
    → by_code n null one two three key c b d m ≡ by_code n (null key c b d m) (one key c b d m) (two key c b d m) (three key c b d m)
by_args n null one two three key c b d m = go (eqb n 1) (eqb n 2) (eqb n 3)
  where
    go : (s t u : Bool)
        → cond s one (cond t two (cond u three null)) key c b d m
        ≡ cond s (one key c b d m) (cond t (two key c b d m) (cond u (three key c b d m) (null key c b d m)))
    go true t u = refl
    go false true u = refl
    go false false true = refl
    go false false false = refl

zeros-octets : Octets (0 ∷ 0 ∷ 0 ∷ 0 ∷ [])
zeros-octets zero = omega arith
zeros-octets (suc zero) = omega arith
zeros-octets (suc (suc zero)) = omega arith
zeros-octets (suc (suc (suc zero))) = omega arith
zeros-octets (suc (suc (suc (suc i)))) = omega arith

module _ (n : ℕ) (key : Key) (c b d : ℕ) (m : List ℕ) where
  one : Laws (nia1_of key.octets c b d) (nea1_of key.octets c b d)
  one = laws1 key.octets c b d

  three : Laws (nia3_of key.octets c b d) (nea3_of key.octets c b d)
  three = laws3 key.octets c b d

  pub code-length : length (code_of n key c b d m) ≡ 4
  unfolding code_of
  code-length =
      all-by_code (λ f. length (f key c b d m) ≡ 4) n _ (keyed nia1_of) nia2_by (keyed nia3_of) refl (one.code-length m) (nia2-length key c b d m) (three.code-length m)

  pub code-octets : Octets key.schedule → Octets (code_of n key c b d m)
  unfolding code_of
  code-octets k =
      all-by_code (λ f. Octets (f key c b d m)) n _ (keyed nia1_of) nia2_by (keyed nia3_of)
      zeros-octets (one.code-octets m) (nia2-octets key c b d m k) (three.code-octets m)

  pub cipher-length : length (cipher_of n key c b d m) ≡ length m
  unfolding cipher_of
  cipher-length =
      all-by_code (λ f. length (f key c b d m) ≡ length m) n _ (keyed nea1_of) nea2_by (keyed nea3_of)
      refl (one.cipher-length m) (nea2-length key c b d m) (three.cipher-length m)

  pub cipher-octets : Octets key.schedule → Octets m → Octets (cipher_of n key c b d m)
  unfolding cipher_of
  cipher-octets k h =
      all-by_code (λ f. Octets (f key c b d m)) n _ (keyed nea1_of) nea2_by (keyed nea3_of)
      h (one.cipher-octets m h) (nea2-octets key c b d m k h) (three.cipher-octets m h)

  pub cipher-twice : cipher_of n key c b d (cipher_of n key c b d m) ≡ m
  unfolding cipher_of
  cipher-twice =
      all-by_code (λ f. f key c b d (f key c b d m) ≡ m) n _ (keyed nea1_of) nea2_by (keyed nea3_of)
      refl (one.cipher-twice m) (nea2-twice key c b d m) (three.cipher-twice m)
