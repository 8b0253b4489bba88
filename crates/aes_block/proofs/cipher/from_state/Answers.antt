use Rattle.aes_block.specs.Cipher.{from_state}
use borrow.Author.Rules.{rules}
use Rattle.aes_block.proofs.cipher.from_state.Goals as goal

pub returns : goal.returns
unfolding from_state
returns c =
    search rules
