-- A message sealed for a COUNT with a last octet: its parts, what verifying it finds, and that it is the same with the same keys and codes.
use Prim.Native.Nat.{ℕ, ◌+◌, ◌%◌}
use mathlib.Core.Path.{◌≡◌, refl, sym}
use mathlib.Core.Bool.{Bool, true, false, ◌||◌}
use mathlib.Core.List.{List, [], ◌∷◌, ◌++◌}
use native.Mathlib.Omega.{arith}
use lib.ListN.{length, get_or, take, drop}
use borrow.Author.Tests.{eq-eqb}
use Rattle.count.specs.declared.Record.{Record}
use Rattle.count.specs.Rule.{opening}
use Rattle.nas_core.specs.declared.Core.{Core}
use Rattle.nas_core.specs.Keyed.{wraps, code_by, payload, protected}
use Rattle.nas_core.specs.Verify.{same, fits, verify_of}
use Rattle.nas_core.proofs.Keys.{code-by-length}
use Rattle.promise.specs.Outcomes.{SameKeys}

-- four octets of code, the last octet of a COUNT, a payload
pub record Parts (l code : List ℕ) (s : ℕ) (body : List ℕ) : Type 0 where
  pub code-there : take 4 l ≡ code
  pub covered : drop 4 l ≡ s ∷ body
  pub octet-there : get_or l 4 0 ≡ s
  pub body-there : drop 5 l ≡ body
  pub long : length l ≡ 5 + length body

pub parts : (code : List ℕ) (s : ℕ) (body : List ℕ) → length code ≡ 4 → Parts (code ++ (s ∷ body)) code s body
parts [] s body h = absurd (omega arith)
parts (a ∷ []) s body h = absurd (omega arith)
parts (a ∷ b ∷ []) s body h = absurd (omega arith)
parts (a ∷ b ∷ c ∷ []) s body h = absurd (omega arith)
parts (a ∷ b ∷ c ∷ d ∷ []) s body h = record { code-there = refl; covered = refl; octet-there = refl; body-there = refl; long = omega arith }
parts (a ∷ b ∷ c ∷ d ∷ e ∷ l) s body h = absurd (omega arith)

pub same_refl : (l : List ℕ) → same l l ≡ true
same_refl [] = refl
same_refl (a ∷ l) = simp (eq-eqb a a refl, same_refl l)

pub or-true : (b : Bool) → b || true ≡ true
or-true true = refl
or-true false = refl

module _ (x : Core) (c b d : ℕ) (m : List ℕ) where
  pub protected-parts : Parts (protected x c b d m) (code_by x c b d (c % 256 ∷ m)) (c % 256) m
  unfolding protected
  protected-parts = parts (code_by x c b d (c % 256 ∷ m)) (c % 256) m (code-by-length x c b d (c % 256 ∷ m))

  -- the code fits where it stands behind a header
  pub fits-behind : (p : ℕ) (l : List ℕ) → take 4 (drop p l) ≡ code_by x c b d m → drop (p + 4) l ≡ m → fits x c b d p l ≡ true
  unfolding fits
  fits-behind p l e f = rw (e, f, same_refl (code_by x c b d m)) (or-true (wraps x))

-- a message sealed for COUNT c on a record, with p octets of header
pub record Sealed (x : Core) (c b d p : ℕ) (m body : List ℕ) : Type 0 where
  pub octet-there : get_or m (p + 4) 0 ≡ c % 256
  pub body-there : drop (p + 5) m ≡ body
  pub long : length m ≡ p + 5 + length body
  pub own : fits x c b d p m ≡ true

-- behind one octet
pub one-sealed : (x : Core) (c b d a : ℕ) (body : List ℕ) → Sealed x c b d 1 (a ∷ protected x c b d body) body
one-sealed x c b d a body =
    let q = protected-parts x c b d body in
    record {
      octet-there = q.octet-there;
      body-there = q.body-there;
      long = omega (arith, q.long);
      own = fits-behind x c b d (c % 256 ∷ body) 1 (a ∷ protected x c b d body) q.code-there q.covered;
    }

module _ (x y : Core) (c b d : ℕ) (k : SameKeys y x) where
  pub codes_same : (m : List ℕ) → code_by y c b d m ≡ code_by x c b d m
  unfolding code_by
  codes_same m = rw (k.integrity, k.integrity-key)

  pub payloads-same : (t : Bool) (m : List ℕ) → payload y t c b d m ≡ payload x t c b d m
  unfolding payload
  payloads-same t m = rw (k.ciphering, k.ciphering-key)

  pub protected-same : (m : List ℕ) → protected y c b d m ≡ protected x c b d m
  unfolding protected
  protected-same m = rw codes_same

fits_one : (x y : Core) → SameKeys y x → (b d p : ℕ) (m : List ℕ) (c : ℕ) → fits y c b d p m ≡ fits x c b d p m
unfolding fits wraps code_by
fits_one x y k b d p m c = rw (k.integrity, k.integrity-key)

pub fits-same : (x y : Core) → SameKeys y x → (b d p : ℕ) (m : List ℕ) → ◌≡◌ {A = ℕ → Bool} (λ c. fits x c b d p m) (λ c. fits y c b d p m)
fits-same x y k b d p m = λ i c. one c i
  where
    one : (c : ℕ) → fits x c b d p m ≡ fits y c b d p m
    one c = sym (fits_one x y k b d p m c)

-- under non-null integrity verifying is the COUNT rule, at the last octet of c
pub verify-is : (x : Core) (r : Record) (c b d q : ℕ) (m body : List ℕ) → wraps x ≡ false → Sealed x c b d q m body
    → verify_of x r b d q m ≡ opening 8 false (λ c'. fits x c' b d q m) x.size r (c % 256)
unfolding verify_of
verify-is x r c b d q m body guarded s = rw (guarded, s.octet-there)
