use Rattle.hex_parse.specs.Form.{key_at}
use Rattle.hex_parse.proofs.form.key.Goals as goal

pub returns : goal.returns
unfolding key_at
returns c =
    cc
