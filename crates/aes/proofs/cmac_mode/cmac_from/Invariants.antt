use Rattle.std.proofs.Common.{◌≡◌, ◌++◌}
use Rattle.aes.specs.Cipher.{from_state, cipher}
use Rattle.aes.specs.Laws.{Octets}
use Rattle.aes.proofs.Mac.{made}
use Rattle.aes.proofs.cmac_mode.cmac_from.Given as goal

abbrev pub invariant-loop-i : goal.invariant-loop-i
invariant-loop-i l =
    (from_state l.x ≡ made (cipher l.w) l.k1 l.k2 (l.head ++ l.message) l.i) × Octets (from_state l.x)
