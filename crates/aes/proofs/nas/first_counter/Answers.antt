use Rattle.std.proofs.Common.{ℕ, List, ◌++◌, replicate, ap, ◌∙◌}
use Rattle.aes_block.proofs.Lists.{itself}
use Rattle.aes.proofs.nas.first_counter.Goals as goal

pub returns : goal.returns
returns c =
    ap (λ (l : List ℕ). l ++ replicate 8 0) (itself 8 c.head-h.result c.head-h.type_inv.1.0.1 ∙ c.head-h.ensures)
