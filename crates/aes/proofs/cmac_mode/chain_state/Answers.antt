use Rattle.std.proofs.Common.{◌≡◌, ◌+◌, ◌-◌, ◌*◌, [], ◌∷◌, ◌++◌, length, ap, ◌∙◌, arith, length-append}
use Rattle.aes.specs.Cipher.{to_state}
use Rattle.aes.proofs.Mac.{in-message, inner_block, end-block}
use Rattle.aes.proofs.cmac_mode.chain_state.Goals as goal

pub returns-then-i-n : goal.returns-then-i-n
returns-then-i-n c =
    let a = c.args in
    let m = a.head.now ++ a.message.now in
    let e : length m ≡ length a.head.now + length a.message.now = length-append a.head.now a.message.now in
    let i : a.i ≡ a.n = omega arith in
    rw (c.keyed_state.ensures, c.last_block.ensures, i, ← e) (ap to_state (end-block a.k1 a.k2 m a.n (omega arith)))

pub returns-then-i-head : goal.returns-then-i-head
returns-then-i-head c =
    let a = c.args in
    let m = a.head.now ++ a.message.now in
    let e : length m ≡ length a.head.now + length a.message.now = length-append a.head.now a.message.now in
    c.early_state.ensures ∙ ap to_state (inner_block a.k1 a.k2 m a.i (omega arith))

pub returns : goal.returns
returns c =
    let a = c.args in
    let h = a.head.now in
    let m = h ++ a.message.now in
    let e : length m ≡ length h + length a.message.now = length-append h a.message.now in
    c.state_at.ensures ∙
    ap to_state (in-message h a.message.now (128 ∷ []) (a.i * 16) (a.i * 16 - length h) (omega arith) (omega arith) ∙ inner_block a.k1 a.k2 m a.i (omega arith))
