-- S0 and S1 of an octet, from their tables.
-- Assumes nothing.
use Rattle.std.proofs.Common.{◌≡◌, ℕ, ◌<◌, get_or, refl, ap, ◌∙◌}
use Rattle.aes.proofs.Tables.{table_at}
use Rattle.streams.specs.Field.{mulx, times_bits, times}
use Rattle.zuc.specs.Boxes.{s0_table, s0, s1_table, s1, inverse, squares}
use Rattle.zuc.specs.declared.tables.TheConstants.{S0, S1}

s0-is : S0 ≡ s0_table
unfolding s0_table s0
s0-is = refl

s1-is : S1 ≡ s1_table
unfolding s1_table s1 inverse squares times times_bits mulx
s1-is = refl

pub s0_at : (b : ℕ) → b < 256 → get_or S0 b 0 ≡ s0 b
unfolding s0_table
s0_at b h = ap (λ t. get_or t b 0) s0-is ∙ table_at s0 256 b h

pub s1_at : (b : ℕ) → b < 256 → get_or S1 b 0 ≡ s1 b
unfolding s1_table
s1_at b h = ap (λ t. get_or t b 0) s1-is ∙ table_at s1 256 b h
