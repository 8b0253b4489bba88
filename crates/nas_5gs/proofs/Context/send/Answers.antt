use Rattle.envelope.proofs.Lengths.{envelope-length}
use Rattle.nas_5gs.specs.Places.{direction_no, bearer_no, place_of, next_at}
use Rattle.nas_5gs.specs.Leaves.{use_next}
use Rattle.nas_5gs.specs.Seal.{sent}
use Rattle.nas_5gs.proofs.Context.send.Goals as goal

pub returns : goal.returns
unfolding sent use_next
returns c =
    let a = c.args in
    simp (c.used.ensures, c.put.ensures, c.place.ensures.0, c.next_count-count.ensures, c.bearer.ensures, c.number.ensures.0, envelope-length a.self.core a.header_type (next_at a.self (place_of a.direction a.connection)) (bearer_no a.connection) (direction_no a.direction) a.inner.now)
