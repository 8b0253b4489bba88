-- FIPS 197 4.2 and 4.4: the products and the inverse are those of a field. Proved in proofs/Field.antt.
-- Assumes nothing.
use Rattle.std.specs.Prelude.{◌≡◌, ℕ, ◌<◌}
use Rattle.aes.specs.Field.{x_times, times, inverse}

pub record FieldFacts : Type 0 where
  -- 4.4: a • a^-1 = {01}
  pub inverse-is-one : (a : ℕ) → 0 < a → a < 256 → times a (inverse a) ≡ 1
  -- 4.2: {02} • b is x_times b, the step of the column mixing
  pub twice-is-x_times : (b : ℕ) → b < 256 → times 2 b ≡ x_times b
  -- 4.2: {57} • {83} = {c1} and {57} • {13} = {fe}
  pub example-4-2 : (times 0x57 0x83 ≡ 0xc1) × (times 0x57 0x13 ≡ 0xfe)
