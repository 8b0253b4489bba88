use Rattle.std.proofs.Common.{◌≡◌, [], ◌∷◌, length, get_or, arith}
use lib.ListN.{get_or-eq_default}
use Rattle.aes.specs.Cmac.{shift_left}
use Rattle.aes.proofs.cmac_mode.shift_left.Goals as goal

pub returns : goal.returns
unfolding shift_left
returns c =
    let n : length c.args.x ≡ 16 = c.well_formed.0.1.0.1 in
    let e : get_or c.args.x 16 0 ≡ 0 = get_or-eq_default c.args.x 0 (omega arith) in
    rw e
    (λ j.
    c.shifted.ensures j ∷ c.shifted-2.ensures j ∷ c.shifted-3.ensures j ∷ c.shifted-4.ensures j ∷
    c.shifted-5.ensures j ∷ c.shifted-6.ensures j ∷ c.shifted-7.ensures j ∷ c.shifted-8.ensures j ∷
    c.shifted-9.ensures j ∷ c.shifted-10.ensures j ∷ c.shifted-11.ensures j ∷ c.shifted-12.ensures j ∷
    c.shifted-13.ensures j ∷ c.shifted-14.ensures j ∷ c.shifted-15.ensures j ∷ c.shifted-16.ensures j ∷ [])
