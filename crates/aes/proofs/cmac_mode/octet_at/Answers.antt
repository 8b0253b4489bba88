use Rattle.std.proofs.Common.{◌-◌, ◌<◌, [], ◌∷◌, length, sym, arith, rules}
use Rattle.aes.proofs.Mac.{at_head, at-message, at-end, past_end}
use Rattle.aes.proofs.cmac_mode.octet_at.Goals as goal

pub returns-then-i-head : goal.returns-then-i-head
returns-then-i-head c =
    let a = c.args in
    sym (at_head a.head.now a.message.now (128 ∷ []) a.i (search rules))

pub returns-then-k-message : goal.returns-then-k-message
returns-then-k-message c =
    let a = c.args in
    let k : a.i - length a.head.now < length a.message.now = omega arith in
    sym (at-message a.head.now a.message.now (128 ∷ []) a.i (a.i - length a.head.now) (omega arith) k)

pub returns-then-k-message-2 : goal.returns-then-k-message-2
returns-then-k-message-2 c =
    let a = c.args in
    sym (at-end a.head.now a.message.now 128 a.i (omega arith))

pub returns-else-k-message-2 : goal.returns-else-k-message-2
returns-else-k-message-2 c =
    let a = c.args in
    sym (past_end a.head.now a.message.now 128 a.i (omega arith))
