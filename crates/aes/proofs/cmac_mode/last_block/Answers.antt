use Rattle.std.proofs.Common.{◌-◌, [], ◌∷◌, length, ◌∙◌, arith}
use Rattle.aes.proofs.Mac.{behind-head}
use Rattle.aes.proofs.cmac_mode.last_block.Goals as goal

pub returns-else-k-head : goal.returns-else-k-head
returns-else-k-head c =
    let a = c.args in
    c.padded_block.ensures ∙ behind-head a.head.now a.message.now (128 ∷ []) a.k (a.k - length a.head.now) (omega arith)
