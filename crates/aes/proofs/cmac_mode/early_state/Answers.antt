use Rattle.std.proofs.Common.{◌≡◌, [], ◌∷◌, ap, ◌∙◌, arith}
use Rattle.aes.specs.Cipher.{to_state}
use Rattle.aes.proofs.Mac.{in_halves}
use Rattle.aes.proofs.cmac_mode.early_state.Goals as goal

pub returns-then-head-ne8 : goal.returns-then-head-ne8
returns-then-head-ne8 c =
    c.to_state.ensures ∙ ap to_state c.gathered_block.ensures

pub returns-then-message-lt8 : goal.returns-then-message-lt8
returns-then-message-lt8 c =
    c.to_state-then-message-lt8.ensures ∙ ap to_state c.gathered_block-then-message-lt8.ensures

pub returns-then-k-ne0 : goal.returns-then-k-ne0
returns-then-k-ne0 c =
    c.to_state-then-k-ne0.ensures ∙ ap to_state c.gathered_block-then-k-ne0.ensures

pub returns : goal.returns
unfolding to_state
returns c =
    let a = c.args in
    let k : a.k ≡ 0 = omega arith in
    rw k (ap to_state (in_halves a.head.now a.message.now (128 ∷ []) (omega arith) (omega arith)))
