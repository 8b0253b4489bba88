-- A definition that goes by tests, against code that goes by the same tests.
use mathlib.Core.Path.{◌≡◌, refl}
use mathlib.Core.Bool.{Bool, true, false, ◌&&◌}
use Prim.Native.Nat.{ℕ}
use native.Mathlib.Omega.{arith}
use lib.Dec.{eqb}
use borrow.Author.Tests.{lt-ltb, le-ltb, le-leb, lt-leb, eq-eqb, ne_eqb, eqb-true}

pub ruleset ladder = (lt-ltb, le-ltb, le-leb, lt-leb, eq-eqb, ne_eqb)

-- two tests that both hold
both : (s t : Bool) → s && t ≡ true → (s ≡ true) × (t ≡ true)
both true true e = (refl, refl)
both true false e = absurd (let z : ◌≡◌ {A = ℕ} 0 1 = cc in omega arith)
both false t e = absurd (let z : ◌≡◌ {A = ℕ} 0 1 = cc in omega arith)

-- both algorithms are AES
pub twos : (i c : ℕ) → eqb i 2 && eqb c 2 ≡ true → (i ≡ 2) × (c ≡ 2)
twos i c e = let t = both (eqb i 2) (eqb c 2) e in (eqb-true i 2 t.0, eqb-true c 2 t.1)
