use Rattle.std.proofs.Common.{ℕ, List, [], ◌++◌, get_or, refl, arith}
use Rattle.aes.specs.Octets.{four}
use Rattle.aes.specs.Cipher.{from_state}
use Rattle.aes.proofs.Over.{joined}
use Rattle.aes.proofs.counter_mode.xor_state.Goals as goal

pub returns : goal.returns
unfolding from_state
returns c =
    let l = c.args.m.now in
    let i = c.args.i in
    let k : (ℕ → List ℕ) = λ j. four (λ r. get_or (get_or c.args.s j []) r 0) in
    joined l _ _ (k 0 ++ k 1 ++ k 2) (k 3) i 12 4 refl refl (omega (arith, c.requires))
    (joined l _ _ (k 0 ++ k 1) (k 2) i 8 4 refl refl (omega (arith, c.requires))
    (joined l _ _ (k 0) (k 1) i 4 4 refl refl (omega (arith, c.requires)) c.xor_four.ensures c.xor_four-2.ensures)
    c.xor_four-3.ensures)
    c.xor_four-4.ensures
