use Rattle.std.proofs.Common.{◌≡◌, ℕ, ◌+◌, ◌-◌, ◌/◌, ◌%◌, ◌<◌, ◌≤◌, List, length, get_or}
use Rattle.aes.specs.Cipher.{cipher}
use Rattle.aes.specs.Counter.{counter}
use Rattle.aes_block.specs.Mix.{Shared}
use Rattle.aes_block.proofs.Lengths.{cipher-length}
use Rattle.aes.proofs.Stream.{ciphered}
use Rattle.aes.proofs.counter_mode.ctr_run.Given as goal

abbrev pub invariant-loop-i : goal.invariant-loop-i
invariant-loop-i l = (l.initial.i ≤ l.i) × (l.i ≤ l.end) × (length l.m ≡ length l.initial.m) ×
    (l.i < l.end → (l.i % 16 ≡ 0) × (l.o + l.n ≡ l.initial.o + l.i / 16)) ×
    ((t m : List ℕ) → length t ≡ 16 → Shared l.w (counter t l.n) l.g → get_or (counter t l.n) 15 0 ≡ l.initial.o → l.initial.m ≡ ciphered (cipher l.w) (cipher-length l.w) t m l.initial.i → l.m ≡ ciphered (cipher l.w) (cipher-length l.w) t m l.i)

abbrev pub decreases-loop-i : goal.decreases-loop-i
decreases-loop-i l = l.end - l.i
