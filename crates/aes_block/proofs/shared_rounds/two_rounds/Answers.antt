use Rattle.aes_block.specs.Cipher.{rounds}
use Rattle.aes_block.proofs.shared_rounds.two_rounds.Goals as goal

pub returns : goal.returns
unfolding rounds
returns c =
    rw (c.middle_round.ensures, c.middle_round-a.ensures, c.add_round_key.ensures)
