use mathlib.Core.Path.{ap₂, ◌∙◌}
use mathlib.Core.List.{◌++◌}
use Rattle.aes_block.specs.Mix.{onward}
use Rattle.aes_block.proofs.Rounds.{one}
use Rattle.aes_block.proofs.pairs.two_to_3.Goals as goal

pub returns : goal.returns
unfolding onward
returns c =
    let a = c.args in
    c.beside.ensures ∙ ap₂ ◌++◌ (one a.w.now 0 a.p _ c.middle_round-a.ensures) (one a.v.now 0 a.q _ c.middle_round.ensures)
