use mathlib.Core.Path.{◌∙◌, ap}
use lib.ListN.{length}
use Rattle.hex_lines.specs.Hex.{number_after}
use Rattle.hex_lines.proofs.Laws as hex
use Rattle.hex_parse.specs.Form.{number_at}
use Rattle.hex_parse.proofs.form.number.Goals as goal

pub returns : goal.returns
unfolding number_at
returns c = (
  c.value.ensures.0 ∙ ap (number_after 0) c.part.ensures.0,
  hex.wider (length c.part.result.now) _ _ c.part.ensures.1 c.value.ensures.1,
)
