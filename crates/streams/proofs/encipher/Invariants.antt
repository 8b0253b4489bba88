use Rattle.std.proofs.Common.{◌≡◌, ◌*◌, length}
use Rattle.streams.specs.Stream.{after}
use Rattle.streams.proofs.Ciphers.{ciphered}
use Rattle.streams.proofs.encipher.Given as goal

abbrev pub invariant-loop-n : goal.invariant-loop-n
invariant-loop-n g l =
    let m = g.M.Machine in
    record {
      long : length l.octets ≡ length l.initial.octets;
      begun : l.octets ≡ ciphered m.step m.word_of l.initial.machine l.initial.octets (l.n * 4);
      behind : l.machine ≡ after m.step l.n l.initial.machine;
    }
