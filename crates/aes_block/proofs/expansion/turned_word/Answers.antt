use mathlib.Core.Path.{◌≡◌}
use mathlib.Core.List.{[], ◌∷◌}
use lib.ListN.{get_or}
use Rattle.aes_block.specs.Field.{x_times}
use Rattle.aes_block.specs.Cipher.{turned, rcon}
use Rattle.aes_block.proofs.Tables.{table_at}
use borrow.Author.Rules.{rules}
use Rattle.aes_block.proofs.expansion.turned_word.Goals as goal

pub returns : goal.returns
unfolding turned rcon x_times
returns c =
    let i = c.args.i in
    let e : get_or (1 ∷ 2 ∷ 4 ∷ 8 ∷ 16 ∷ 32 ∷ 64 ∷ 128 ∷ 27 ∷ 54 ∷ []) i 0 ≡ rcon i = table_at rcon 10 i (search rules) in
    rw (c.xor_word.ensures, c.sub_word.ensures, e)
