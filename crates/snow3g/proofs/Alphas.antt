-- MULalpha and DIValpha of an octet, from their tables.
-- Assumes nothing.
use Rattle.std.proofs.Common.{◌≡◌, ℕ, ◌<◌, get_or, refl, ap, ◌∙◌}
use Rattle.aes.proofs.Tables.{table_at}
use Rattle.streams.specs.Field.{mulx}
use Rattle.snow3g.specs.Field.{mul_alpha, div_alpha, mulx_pow}
use Rattle.snow3g.specs.Tables.{mul_table, div_table}
use Rattle.snow3g.specs.declared.tables.TheConstants.{MUL, DIV}

mul-is : MUL ≡ mul_table
unfolding mul_table mul_alpha mulx_pow mulx
mul-is = refl

div-is : DIV ≡ div_table
unfolding div_table div_alpha mulx_pow mulx
div-is = refl

pub mul-at : (v : ℕ) → v < 256 → get_or MUL v 0 ≡ mul_alpha v
unfolding mul_table
mul-at v h = ap (λ t. get_or t v 0) mul-is ∙ table_at mul_alpha 256 v h

pub div-at : (v : ℕ) → v < 256 → get_or DIV v 0 ≡ div_alpha v
unfolding div_table
div-at v h = ap (λ t. get_or t v 0) div-is ∙ table_at div_alpha 256 v h
