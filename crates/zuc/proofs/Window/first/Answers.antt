use Rattle.std.proofs.Common.{get_or}
use Rattle.streams.specs.Stream.{after, words}
use Rattle.zuc.specs.Windows.{window_at}
use Rattle.zuc.proofs.Window.first.Goals as goal

pub returns : goal.returns
unfolding window_at after words
returns c =
    let n = c.next_words.ensures in
    λ i. record { state = n.behind i; first = get_or (n.given i) 0 0; second = get_or (n.given i) 1 0 }
