-- Each fact is one computed test over all octets.
-- Assumes nothing.
use mathlib.Core.Path.{◌≡◌, refl}
use mathlib.Core.Bool.{cond}
use Prim.Native.Nat.{ℕ, ◌<◌}
use native.Mathlib.Omega.{arith}
use lib.Dec.{eqb}
use borrow.Author.Tests.{ne_eqb}
use Rattle.aes.specs.Field.{x_times, times, times_bits, inverse, squares}
use Rattle.aes.proofs.Tables.{same-table}
use Rattle.aes.proofs.Field.{times-2}
use Rattle.aes_examples.specs.Field.{FieldFacts}

one-or-none : (a : ℕ) → a < 256 → times a (inverse a) ≡ cond (eqb a 0) 0 1
unfolding times times_bits x_times inverse squares
one-or-none a h = same-table (λ x. times x (inverse x)) (λ x. cond (eqb x 0) 0 1) 256 a refl h

inverse-is-one : (a : ℕ) → 0 < a → a < 256 → times a (inverse a) ≡ 1
inverse-is-one a p h = rw (one-or-none a h, ne_eqb a 0 (λ e. omega arith))

pub field-facts : FieldFacts
unfolding times times_bits x_times
field-facts = record { inverse-is-one = inverse-is-one; twice-is-x_times = times-2; example-4-2 = (refl, refl) }
