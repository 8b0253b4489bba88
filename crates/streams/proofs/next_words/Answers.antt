use Rattle.std.proofs.Common.{refl, add-one, rules}
use Rattle.std.proofs.lemmas.List.{take_more_set, length-replicate}
use Rattle.streams.specs.Stream.{after, words}
use Rattle.streams.proofs.Words.{words-more}
use Rattle.streams.proofs.next_words.Goals as goal

pub loop-i-init : goal.loop-i-init
unfolding after words
loop-i-init g c = record { long = length-replicate _ _; behind = refl; so_far = refl }

pub loop-i-preserved : goal.loop-i-preserved
unfolding after
loop-i-preserved g c =
    let m = g.M.Machine in
    let i = c.loop-i.invariant in
    record {
      long = search rules;
      behind = rw (c.advance.ensures, i.behind, add-one);
      so_far = rw (take_more_set c.loop-i.given c.loop-i.i c.word.result (search rules), i.so_far, c.word.ensures, i.behind, words-more);
    }
