use mathlib.Core.Path.{ap₂, ◌∙◌}
use mathlib.Core.List.{List, ◌++◌}
use Prim.Native.Nat.{ℕ}
use Rattle.aes_block.specs.Cipher.{add_round_key, shift_rows, sub_bytes}
use Rattle.aes_block.specs.Mix.{ended}
use Rattle.aes_block.proofs.Rounds.{first, second}
use Rattle.aes_block.proofs.pairs.two_states.Goals as goal

pub returns : goal.returns
unfolding ended
returns c =
    let a = c.args in
    let w = a.w.now in
    let v = a.v.now in
    let e = c.two_to_9.ensures in
    c.two_last.ensures ∙
    ap₂ (λ (x y : List (List ℕ)). add_round_key w 10 (shift_rows (sub_bytes x)) ++ add_round_key v 10 (shift_rows (sub_bytes y)))
    (first w v a.p a.q _ 6 e) (second w v a.p a.q _ 6 e)
