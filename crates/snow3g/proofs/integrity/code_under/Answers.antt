use Rattle.std.proofs.Common.{div-one}
use Rattle.streams.specs.Stream.{after, words}
use Rattle.snow3g.specs.Uia2.{code_under, z}
use Rattle.snow3g.proofs.integrity.code_under.Goals as goal

pub returns : goal.returns
unfolding code_under z words after
returns c =
    rw (
      c.to_be_bytes.ensures,
      div-one,
      c.closed-e.ensures,
      c.pair-2.ensures,
      c.pair.ensures,
      c.next_words.ensures.given,
    )
