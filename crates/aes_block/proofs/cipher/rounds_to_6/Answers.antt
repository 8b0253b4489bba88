use Rattle.aes_block.specs.Cipher.{rounds}
use Rattle.aes_block.proofs.cipher.rounds_to_6.Goals as goal

pub returns : goal.returns
unfolding rounds
returns c =
    rw (c.middle_round.ensures, c.middle_round-b.ensures, c.middle_round-a.ensures, c.rounds_to_3.ensures)
