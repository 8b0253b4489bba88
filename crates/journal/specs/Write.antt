-- What writing one record leaves: the answer and the lent output.
use Rattle.std.specs.Prelude.{ℕ, ◌+◌, not, List, [], ◌∷◌, ◌++◌, Result, Ok, Err, ltb, length, drop}
use Rattle.refusals.specs.declared.Refusal.{Refusal}
use Rattle.refusals.specs.Numbers.{number_of}
use Rattle.refusals.specs.Order.{◌when◌, first, refused_or}
use Rattle.journal.specs.Records.{is_allowed, most, head, record_of}

pub data Written : Type 0 where
  Refused : ℕ → Written
  Octets : ℕ → Written

abbrev pub told_written : Result ℕ Refusal → Written
told_written (Ok n) = Octets n
told_written (Err r) = Refused (number_of r)

pub data Writes : Type 0 where
  writes : Written → List ℕ → Writes

-- n bytes of call, and an output of so many octets: 1, 4, 5
unfoldable pub refusal_of : ℕ → ℕ → ℕ → ℕ
refusal_of kind n room =
    first (1 when not (is_allowed kind n) ∷ 4 when ltb most n ∷ 5 when ltb room (head + n) ∷ [])

unfoldable pub write_of : ℕ → List ℕ → List ℕ → Writes
write_of kind bytes out =
    refused_or (refusal_of kind (length bytes) (length out)) (λ n. writes (Refused n) out)
    (writes (Octets (head + length bytes)) (record_of kind bytes ++ drop (head + length bytes) out))
