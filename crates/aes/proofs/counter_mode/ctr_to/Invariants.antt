use Rattle.std.proofs.Common.{◌≡◌, ℕ, ◌-◌, ◌%◌, ◌<◌, ◌≤◌, List, ◌++◌, length, take, drop}
use Rattle.aes.specs.Cipher.{cipher}
use Rattle.aes.specs.Counter.{ctr_of}
use Rattle.aes.proofs.counter_mode.ctr_to.Given as goal

abbrev pub sofar : List ℕ → List ℕ → List ℕ → ℕ → List ℕ
sofar w t l i = ctr_of (cipher w) t (take i l) ++ drop i l

abbrev pub invariant-loop-i : goal.invariant-loop-i
invariant-loop-i l = (l.i ≤ l.end) × (length l.m ≡ length l.initial.m) × (l.i < l.end → l.i % 16 ≡ 0) ×
    ((o : List ℕ) → l.initial.m ≡ sofar l.w l.t o l.initial.i → l.m ≡ sofar l.w l.t o l.i)

abbrev pub decreases-loop-i : goal.decreases-loop-i
decreases-loop-i l = l.end - l.i
