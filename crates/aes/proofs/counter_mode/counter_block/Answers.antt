use Rattle.std.proofs.Common.{ℕ, List, drop, ap}
use Rattle.aes.specs.Octets.{number}
use Rattle.aes.specs.Counter.{counter}
use Rattle.aes_block.proofs.Lists.{itself}
use Rattle.aes.proofs.Octets.{number-be}
use Rattle.aes.proofs.counter_mode.counter_block.Goals as goal

pub returns : goal.returns
unfolding counter
returns c =
    rw (c.numbered.ensures, c.from_be_bytes-base.ensures, number-be, ap (λ (l : List ℕ). number (drop 8 l)) (itself 16 c.args.t c.well_formed.0.1.0.1))
