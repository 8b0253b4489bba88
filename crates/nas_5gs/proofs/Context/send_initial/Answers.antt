use Rattle.envelope.proofs.Lengths.{initial-length}
use Rattle.nas_core.specs.declared.Direction.TheVariants.{Uplink}
use Rattle.nas_5gs.specs.Places.{bearer_no, place_of, next_at}
use Rattle.nas_5gs.specs.Leaves.{use_next}
use Rattle.nas_5gs.specs.Initial.{sent_initial}
use Rattle.nas_5gs.proofs.Context.send_initial.Goals as goal

pub returns : goal.returns
unfolding sent_initial use_next
returns c =
    let a = c.args in
    simp (c.used.ensures, c.put_initial.ensures, c.place.ensures.0, c.next_count-count.ensures, c.bearer.ensures, c.outer_length-wrote.ensures, initial-length a.self.core (next_at a.self (place_of Uplink a.connection)) (bearer_no a.connection) a.whole.now c.requires.2)
