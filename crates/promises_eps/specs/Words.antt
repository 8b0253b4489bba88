-- Words that the demands share.
use Rattle.std.specs.Prelude.{ℕ, ◌+◌, ◌≤◌, ◌<◌, ◌≡◌, true, List}
use Rattle.count.specs.Run.{State}
use Rattle.nas_eps.specs.declared.Context.{Context}
use Rattle.nas_eps.specs.Places.{record_at, next_at}
use Rattle.promises_eps.specs.Calls.{Outcome}
pub use Rattle.promise.specs.Outcomes.{SameKeys, Succeeds, Uses, written, TakenAs}

-- the record at p, with the window size
abbrev pub record_of : ℕ → Context → State
record_of p x = record { size = x.core.size; at = record_at x p }

-- "c is among the n COUNTs from the next one on"
abbrev pub Ahead : ℕ → ℕ → Context → ℕ → Type 0
Ahead n p x c = (next_at x p ≤ c) × (c < next_at x p + n)

-- a SERVICE REQUEST "uses c and answers i, writing nothing"
pub record AnswersRequest (o : Outcome) (c i : ℕ) (out : List ℕ) : Type 0 where
  pub succeeds : Succeeds o
  pub uses : o.values.uses ≡ true
  pub count : o.values.count ≡ c
  pub header : o.values.header ≡ 12
  pub identifier : o.values.carried ≡ i
  pub wrote : o.values.wrote ≡ 0
  pub keeps : o.output ≡ out
