use Rattle.std.proofs.Common.{◌≡◌, ◌+◌, ◌-◌, ◌<◌, ◌≤◌, [], get_or, ap, ◌∙◌, arith}
use Rattle.aes.specs.Octets.{four}
use Rattle.aes.specs.Cipher.{from_state}
use Rattle.aes.proofs.Over.{parts-two}
use Rattle.aes.proofs.counter_mode.xor_rest.Goals.{then-end-i-lt16, else-end-i-lt16}
use Rattle.aes.proofs.counter_mode.xor_rest.Goals as goal

pub xor_part-requires : goal.xor_part-requires
xor_part-requires c =
    elim c.if-end-i-lt16.branch [ then-end-i-lt16 w ↦ (omega arith, omega arith, omega arith) | else-end-i-lt16 w ↦ (omega arith, omega arith, omega arith) ]

pub xor_part-requires-2 : goal.xor_part-requires-2
xor_part-requires-2 c =
    elim c.if-end-i-lt16.branch [ then-end-i-lt16 w ↦ (omega arith, omega arith, omega arith) | else-end-i-lt16 w ↦ (omega arith, omega arith, omega arith) ]

pub returns : goal.returns
unfolding from_state
returns c =
    let a = c.args in
    let i = a.i in
    let n = c.if-end-i-lt16.middle in
    let h : (i ≤ n) × (n ≤ a.end) × (n - i ≤ 16) × (a.end - n ≤ 16) × (n - i < 16 → a.end - n ≡ 0) =
    elim c.if-end-i-lt16.branch [
      | then-end-i-lt16 w ↦ (omega arith, omega arith, omega arith, omega arith, λ z. omega arith)
      | else-end-i-lt16 w ↦ (omega arith, omega arith, omega arith, omega arith, λ z. omega arith)
    ] in
    parts-two a.m.now c.xor_part.new.m _
    (from_state (four (λ c. get_or a.s c []))) (from_state (four (λ c. get_or a.s (c + 4) []))) i n a.end
    h.0 h.1 (omega arith) h.2 h.3 h.4 _ _
    (c.from_state.ensures ∙ ap from_state c.left.ensures)
    (c.from_state-2.ensures ∙ ap from_state c.right.ensures)
    c.xor_part.ensures c.xor_part-2.ensures
