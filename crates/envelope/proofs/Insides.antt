-- What is asked for, and the test of the container's message: three octets decide it.
use mathlib.Core.Path.{◌≡◌, refl, ap, ◌∙◌}
use mathlib.Core.Bool.{Bool, true, false, ◌&&◌}
use mathlib.Core.List.{List}
use Prim.Native.Nat.{ℕ, ◌<◌}
use native.Mathlib.Omega.{arith}
use lib.Dec.{eqb}
use lib.ListN.{length, take}
use borrow.Author.Tests.{lt-leb, eqb-true}
use Rattle.look.specs.Look.{is_mobility, is_of}
use Rattle.initial.specs.Messages.{is_initial, type_of}
use Rattle.initial.specs.Inside.{is_asked, is_inside}
use Rattle.initial.proofs.Laws.{laws}
use Rattle.nas_core.specs.declared.Core.{Core}
use Rattle.nas_core.specs.Keyed.{payload}
use Rattle.nas_core.proofs.Keys.{payload-length, payload-prefix}

all : (a b c : Bool) → a && b && c ≡ true → (a ≡ true) × (b ≡ true) × (c ≡ true)
all true true true e = (refl, refl, refl)
all true true false e = absurd (let z : ◌≡◌ {A = ℕ} 0 1 = cc in omega arith)
all true false c e = absurd (let z : ◌≡◌ {A = ℕ} 0 1 = cc in omega arith)
all false b c e = absurd (let z : ◌≡◌ {A = ℕ} 0 1 = cc in omega arith)

-- what is asked for: header type 1, uplink, an initial message
pub asked_is : (t d : ℕ) (p : List ℕ) → is_asked t d p ≡ true → (t ≡ 1) × (d ≡ 0) × (is_initial p ≡ true)
unfolding is_asked
asked_is t d p e = let a = all (eqb t 1) (eqb d 0) (is_initial p) e in (eqb-true t 1 a.0, eqb-true d 0 a.1, a.2)

module _ (x : Core) (c b : ℕ) (p v : List ℕ) (i : is_initial p ≡ true) where
  pub decided : is_inside p (payload x true c b 0 (take 3 v)) ≡ is_inside p (payload x true c b 0 v)
  decided = ap (is_inside p) (payload-prefix x c b 0 v true 3) ∙ (laws.inside (λ l. l) p).by_three (payload x true c b 0 v) i

  none : (l : List ℕ) → length l < 3 → is_of (type_of p) l ≡ false
  unfolding is_of is_mobility
  none l h = simp (lt-leb 3 (length l) h)

  -- fewer are no message
  pub short : length v < 3 → is_inside p (payload x true c b 0 v) ≡ false
  short h =
      (laws.inside (λ l. l) p).by-type (payload x true c b 0 v) i
      ∙ none (payload x true c b 0 v) (omega (arith, payload-length x c b 0 v true))
