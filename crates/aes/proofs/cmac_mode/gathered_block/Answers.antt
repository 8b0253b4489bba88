use Rattle.std.proofs.Common.{[], ◌∷◌, add-zero, arith}
use Rattle.aes.proofs.cmac_mode.gathered_block.Goals as goal

pub overflow_add-k-14 : goal.overflow_add-k-14
overflow_add-k-14 c =
    omega (arith, c.requires)

pub overflow_add-k-15 : goal.overflow_add-k-15
overflow_add-k-15 c =
    omega (arith, c.requires)

pub returns : goal.returns
returns c =
    rw add-zero
    (λ j.
    c.octet_at.ensures j ∷ c.octet_at-2.ensures j ∷ c.octet_at-3.ensures j ∷ c.octet_at-4.ensures j ∷
    c.octet_at-5.ensures j ∷ c.octet_at-6.ensures j ∷ c.octet_at-7.ensures j ∷ c.octet_at-8.ensures j ∷
    c.octet_at-9.ensures j ∷ c.octet_at-10.ensures j ∷ c.octet_at-11.ensures j ∷ c.octet_at-12.ensures j ∷
    c.octet_at-13.ensures j ∷ c.octet_at-14.ensures j ∷ c.octet_at-15.ensures j ∷ c.octet_at-16.ensures j ∷ [])
