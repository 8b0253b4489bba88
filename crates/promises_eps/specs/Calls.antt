-- Every public call of the EPS context with its arguments, and what it answers, hands back and leaves in the lent output: the definitions that the calls'
-- contracts cite. Crate covers_eps calls each function and proves that it leaves what stands here, from the function's contract alone.
use Rattle.std.specs.Prelude.{ℕ, cond, List, [], ◌∷◌, ◌++◌, eqb}
use Rattle.nas_eps.specs.declared.Context.{Context}
use Rattle.nas_core.specs.declared.Direction.{Direction}
use Rattle.nas_eps.specs.Places.{uplink, place_of, next_at}
use Rattle.nas_eps.specs.Leaves.{change_values, use_values, open_values}
use Rattle.nas_eps.specs.Changes.{new_of, restore_of, reselect_of, window_of}
use Rattle.nas_eps.specs.Seal.{seal_of, service_request_of}
use Rattle.nas_eps.specs.Open.{open_of}
use Rattle.promise.specs.Outcomes.{Outcome as OutcomeOf}
pub use Rattle.promise.specs.Outcomes.{outcome, used_by}

-- The calls on a context. The last argument of those that write is the lent output as it was.
pub data Call : Type 0 where
  -- the new size
  set_window : ℕ → Call
  -- codes for integrity and ciphering, their keys
  reselect : ℕ → ℕ → List ℕ → List ℕ → Call
  -- header type, direction, inner octets
  seal_message : ℕ → Direction → List ℕ → List ℕ → Call
  -- SERVICE REQUEST: identifier
  seal_request : ℕ → List ℕ → Call
  -- direction, message
  open_message : Direction → List ℕ → List ℕ → Call

-- The calls that make a context: codes for integrity and ciphering, their keys, and the next COUNTs to restore, uplink and downlink.
pub data Making : Type 0 where
  create : ℕ → ℕ → List ℕ → List ℕ → Making
  restore : ℕ → ℕ → List ℕ → List ℕ → ℕ → ℕ → Making

-- The calls that read a number of a context, and hand back none.
pub data Reading : Type 0 where
  next_count : Direction → Reading
  window integrity ciphering : Reading

abbrev pub Outcome : Type 0
Outcome = OutcomeOf Context

abbrev pub gives : Call → Context → Outcome
gives (set_window n) x = outcome change_values (window_of x n)
gives (reselect i c ik ck) x = outcome change_values (reselect_of x i c ik ck)
gives (seal_message t d inner out) x = outcome use_values (seal_of x t d inner out)
gives (seal_request i out) x = outcome use_values (service_request_of x i out)
gives (open_message d m out) x = outcome open_values (open_of x d m out)

abbrev pub makes : Making → Outcome
makes (create i c ik ck) = outcome change_values (new_of i c ik ck)
makes (restore i c ik ck up down) = outcome change_values (restore_of i c ik ck up down)

abbrev pub reads : Reading → Context → ℕ
reads (next_count d) x = next_at x (place_of d)
reads window x = x.core.size
reads integrity x = x.core.integrity
reads ciphering x = x.core.ciphering

-- the output that is lent
abbrev pub lent : Call → List ℕ
lent (set_window n) = []
lent (reselect i c ik ck) = []
lent (seal_message t d inner out) = out
lent (seal_request i out) = out
lent (open_message d m out) = out

-- The place of the record that a call works on: 0 or 1, and 2, no record, for window size and reselection, which are of both.
abbrev pub place_in : Call → ℕ
place_in (set_window n) = 2
place_in (reselect i c ik ck) = 2
place_in (seal_message t d inner out) = place_of d
place_in (seal_request i out) = uplink
place_in (open_message d m out) = place_of d

-- Any calls, whatever gives their outcomes: `gives`, or that of a wrong context.
module _ (G : Call → Context → Outcome) where
  -- "each on the context that the last one gave back": the last call stands first in the list
  abbrev pub context_after : Context → List Call → Context
  context_after x [] = x
  context_after x (k ∷ ks) = (G k (context_after x ks)).context

  -- the COUNTs that the answers of the calls on the record at p say were used, the last one first
  abbrev pub counts_used : ℕ → Context → List Call → List ℕ
  counts_used p x [] = []
  counts_used p x (k ∷ ks) =
      cond (eqb p (place_in k)) (used_by (G k (context_after x ks)).values) [] ++ counts_used p x ks
