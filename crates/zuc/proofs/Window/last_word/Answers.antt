use Rattle.std.proofs.Common.{eq-eqb, ne_eqb}
use Rattle.zuc.specs.Windows.{last_word}
use Rattle.zuc.proofs.Window.last_word.Goals as goal

pub returns-then-n-eq0 : goal.returns-then-n-eq0
unfolding last_word
returns-then-n-eq0 c =
    rw (eq-eqb _ _ c.if-n-eq0.true)

pub returns-else-n-eq0 : goal.returns-else-n-eq0
unfolding last_word
returns-else-n-eq0 c =
    rw (c.word.ensures, ne_eqb _ _ c.if-n-eq0.false)
