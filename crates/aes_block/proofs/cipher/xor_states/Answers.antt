use mathlib.Core.Path.{◌∙◌}
use Rattle.aes_block.proofs.Lists.{four-by}
use Rattle.aes_block.proofs.Rows.{columns-four}
use Rattle.aes_block.proofs.Rounds.{xor-square}
use Rattle.aes_block.proofs.cipher.xor_states.Goals as goal

pub returns : goal.returns
returns c =
    let g = c.well_formed.0 in
    let h = c.well_formed.1.0 in
    four-by c.xor_word.ensures c.xor_word-2.ensures c.xor_word-3.ensures c.xor_word-4.ensures ∙
    xor-square c.args.a c.args.b (columns-four c.args.a g.0 g.1.0.1 g.1.1) (columns-four c.args.b h.0 h.1.0.1 h.1.1)
