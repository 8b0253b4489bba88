-- Words that the demands share.
use Rattle.std.specs.Prelude.{ℕ, ◌+◌, ◌≤◌, ◌<◌}
use Rattle.count.specs.Run.{State}
use Rattle.nas_5gs.specs.declared.Context.{Context}
use Rattle.nas_5gs.specs.Places.{record_at, next_at}
pub use Rattle.promise.specs.Outcomes.{SameKeys, Succeeds, Uses, written, TakenAs}

-- the record at p, with the window size
abbrev pub record_of : ℕ → Context → State
record_of p x = record { size = x.core.size; at = record_at x p }

-- "c is among the 256 COUNTs from the next one on"
abbrev pub Ahead : ℕ → Context → ℕ → Type 0
Ahead p x c = (next_at x p ≤ c) × (c < next_at x p + 256)
