use Rattle.std.proofs.Common.{◌≡◌, ◌+◌, ◌*◌, length, take}
use Rattle.aes_block.specs.Cipher.{words}
use Rattle.aes_block.proofs.expansion.expand_key.Given as goal

abbrev pub invariant-loop-n : goal.invariant-loop-n
invariant-loop-n l = (length l.w ≡ 176) × (take (l.n * 4 + 16) l.w ≡ words l.fn.key l.n)
