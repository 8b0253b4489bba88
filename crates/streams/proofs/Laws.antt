-- What the layers above rely on, of any code of one word and of any ciphering under the words of a machine.
-- Assumes nothing.
use Rattle.std.proofs.Common.{ℕ, List, refl}
use Rattle.aes.specs.Octets.{octets}
use Rattle.streams.specs.Laws.{Laws}
use Rattle.streams.specs.Stream.{enciphered}
use Rattle.streams.proofs.Under.{octets-octets}
use Rattle.streams.proofs.Ciphers.{cipher-length, cipher-octets, cipher-twice, cipher-prefix}

pub laws : {S : Type 0} (step : S → S) (word : S → ℕ) (x : S) (code : List ℕ → ℕ) → Laws (λ m. octets 4 (code m)) (enciphered step word x)
laws step word x code =
    record {
      code-length = λ m. refl;
      code-octets = λ m. octets-octets 4 (code m);
      cipher-length = cipher-length step word x;
      cipher-octets = cipher-octets step word x;
      cipher-twice = cipher-twice step word x;
      cipher-prefix = cipher-prefix step word x;
    }
