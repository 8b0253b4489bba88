use Rattle.nas_eps.proofs.Lengths.{message-length}
use Rattle.nas_eps.specs.Places.{place_of, next_at}
use Rattle.nas_eps.specs.Leaves.{use_next}
use Rattle.nas_eps.specs.Seal.{sent}
use Rattle.nas_eps.proofs.Context.send.Goals as goal

pub returns : goal.returns
unfolding sent use_next
returns c =
    let a = c.args in
    simp (c.used.ensures, c.put.ensures, c.next_count-count.ensures, c.number-d.ensures.0, message-length a.self.core a.header_type (next_at a.self (place_of a.direction)) (place_of a.direction) a.inner.now)
