-- The windows that a walk over the words of a message meets.
-- Assumes nothing.
use Rattle.std.proofs.Common.{◌≡◌, ℕ, zero, suc, refl, ap}
use Rattle.streams.specs.Stream.{after}
use Rattle.zuc.specs.declared.State.{State}
use Rattle.zuc.specs.declared.Window.{Window}
use Rattle.zuc.specs.Windows.{window_at, moved}

-- n words on
unfoldable pub moved_by : ℕ → Window → Window
moved_by zero v = v
moved_by (suc n) v = moved (moved_by n v)

-- from the first window of a state these are its windows
pub windows : (x : State) (n : ℕ) → moved_by n (window_at x 0) ≡ window_at x n
unfolding moved_by window_at after moved
windows x zero = refl
windows x (suc n) = ap moved (windows x n)
