-- "Isolation (calls on one record leave the other and its answers, save window size and reselection)".
use Rattle.std.specs.Prelude.{ℕ, ◌<◌, ◌≡◌, List, [], ◌∷◌, length}
use Rattle.nas_eps.specs.declared.Context.{Context}
use Rattle.nas_core.specs.declared.Direction.{Direction}
use Rattle.nas_eps.specs.Places.{place_of, record_at}
use Rattle.promises_eps.specs.Calls.{Call, gives, place_in, context_after}

-- calls on the other record than the one at p, none of them a new window size or a reselection
abbrev pub Elsewhere : ℕ → List Call → Type 0
Elsewhere p [] = Unit {0}
Elsewhere p (k ∷ ks) = (place_in k < 2) × (p ≡ place_in k → ⊥) × Elsewhere p ks

-- of the record at p, after such calls; keys, codes and size stay too
pub record Isolated (x : Context) (p : ℕ) (ks : List Call) : Type 0 where
  pub left : record_at (context_after gives x ks) p ≡ record_at x p
  pub core : (context_after gives x ks).core ≡ x.core
  -- a call on it answers, and writes, what it would have without them
  pub answers : (k : Call) → place_in k ≡ p → (gives k (context_after gives x ks)).values ≡ (gives k x).values
  pub writes : (k : Call) → place_in k ≡ p → (gives k (context_after gives x ks)).output ≡ (gives k x).output

-- the two records are two
abbrev pub Apart : Type 0
Apart = (d d' : Direction) → place_of d ≡ place_of d' → d ≡ d'

-- a context has two records
abbrev pub Isolation : Type 0
Isolation = (x : Context) → length x.records ≡ 2 → (p : ℕ) → p < 2 → (ks : List Call) → Elsewhere p ks → Isolated x p ks
