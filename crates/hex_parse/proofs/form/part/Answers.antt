use mathlib.Core.Path.{ap, ◌∙◌}
use lib.ListN.{take}
use Rattle.hex_parse.proofs.form.part.Goals as goal

pub returns : goal.returns
returns c =
    (c.front.ensures.0 ∙ ap (take c.args.n) c.after.ensures, c.front.ensures.2)
