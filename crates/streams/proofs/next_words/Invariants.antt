use Rattle.std.proofs.Common.{◌≡◌, length, take}
use Rattle.streams.specs.Stream.{after, words}
use Rattle.streams.proofs.next_words.Given as goal

abbrev pub invariant-loop-i : goal.invariant-loop-i
invariant-loop-i g l =
    let m = g.M.Machine in
    record {
      long : length l.given ≡ g.row.N;
      behind : l.machine ≡ after m.step l.i l.initial.machine;
      so_far : take l.i l.given ≡ words m.step m.word_of l.i l.initial.machine;
    }
