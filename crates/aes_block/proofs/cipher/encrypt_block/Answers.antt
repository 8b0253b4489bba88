use mathlib.Core.Path.{ap, ◌∙◌}
use Rattle.aes_block.specs.Cipher.{cipher}
use Rattle.aes_block.proofs.Lengths.{cipher-length}
use Rattle.aes_block.proofs.Rounds.{back}
use Rattle.aes_block.proofs.cipher.encrypt_block.Goals as goal

pub returns : goal.returns
returns c =
    let w = c.args.w.now in
    let b = c.args.b in
    rw (c.from_state.ensures, c.encrypt_state.ensures, c.to_state.ensures)
    (back (cipher w _) (cipher-length w _) ∙ ap (cipher w) (back b c.well_formed.1.0.1.0.1))
