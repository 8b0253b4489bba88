use Rattle.std.proofs.Common.{◌≡◌, ℕ, ◌-◌, ◌/◌, ◌%◌, ◌≤◌, List, ◌++◌, length, take, drop}
use Rattle.aes.specs.Cipher.{from_state, cipher}
use Rattle.aes.specs.Counter.{ctr_of}
use Rattle.aes.proofs.Chain.{entering}
use Rattle.aes.proofs.sealing.cipher_and_chain.Given as goal

abbrev pub invariant-loop-i : goal.invariant-loop-i
invariant-loop-i l = (32 ≤ l.i) × (l.i ≤ l.end) × (l.i % 16 ≡ 0) ×
    ((o : List ℕ) → l.initial.p ≡ ctr_of (cipher l.w) l.t (take l.initial.i o) ++ drop l.initial.i o → l.p ≡ ctr_of (cipher l.w) l.t (take l.i o) ++ drop l.i o) ×
    ((h : List ℕ) → length h ≡ 9 → from_state l.initial.x ≡ entering (cipher l.v) (h ++ l.initial.p) (l.initial.i / 16 - 2) → from_state l.x ≡ entering (cipher l.v) (h ++ l.p) (l.i / 16 - 2))

abbrev pub decreases-loop-i : goal.decreases-loop-i
decreases-loop-i l = l.end - l.i
