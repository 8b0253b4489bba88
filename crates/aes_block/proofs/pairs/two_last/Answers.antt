use mathlib.Core.List.{[], ◌∷◌}
use Rattle.aes_block.specs.Cipher.{add_round_key, shift_rows, sub_bytes}
use Rattle.aes_block.proofs.pairs.two_last.Goals as goal

pub returns : goal.returns
unfolding add_round_key shift_rows sub_bytes
returns c =
    λ j.
    c.last_column.ensures j ∷ c.last_column-2.ensures j ∷ c.last_column-3.ensures j ∷ c.last_column-4.ensures j ∷
    c.last_column-5.ensures j ∷ c.last_column-6.ensures j ∷ c.last_column-7.ensures j ∷ c.last_column-8.ensures j ∷ []
