use Rattle.std.proofs.Common.{◌≡◌, ℕ, ◌+◌, ◌-◌, ◌/◌, ◌%◌, ◌<◌, ◌≤◌, List, ◌++◌, length, get_or, take, drop}
use Rattle.aes.specs.Cipher.{to_state, from_state, cipher}
use Rattle.aes.specs.Counter.{counter, ctr_of}
use Rattle.aes_block.specs.Mix.{Shared}
use Rattle.aes.proofs.Chain.{entering}
use Rattle.aes.proofs.sealing.run_both.Given as goal

abbrev pub invariant-loop-i : goal.invariant-loop-i
invariant-loop-i l = (l.initial.i ≤ l.i) × (l.i ≤ l.end) × (l.i % 16 ≡ 0) × (length l.p ≡ length l.initial.p) ×
    (l.i < l.end → l.o ≡ l.initial.o + (l.i / 16 - l.initial.i / 16)) × (l.x ≡ to_state (from_state l.x)) ×
    ((t m : List ℕ) → length t ≡ 16 → Shared l.w (counter t (l.initial.i / 16)) l.g → l.initial.o ≡ get_or (counter t (l.initial.i / 16)) 15 0 → l.initial.p ≡ ctr_of (cipher l.w) t (take l.initial.i m) ++ drop l.initial.i m → l.p ≡ ctr_of (cipher l.w) t (take l.i m) ++ drop l.i m) ×
    ((h : List ℕ) → length h ≡ 9 → from_state l.initial.x ≡ entering (cipher l.v) (h ++ l.initial.p) (l.initial.i / 16 - 2) → from_state l.x ≡ entering (cipher l.v) (h ++ l.p) (l.i / 16 - 2))

abbrev pub decreases-loop-i : goal.decreases-loop-i
decreases-loop-i l = l.end - l.i
