-- Every public call with its arguments, and what it answers, hands back and leaves in the lent outputs: the definitions that the calls' contracts cite.
-- Crate covers calls each function and proves that it leaves what stands here, from the function's contract alone.
use Rattle.std.specs.Prelude.{ℕ, cond, List, [], ◌∷◌, ◌++◌, eqb}
use Rattle.nas_5gs.specs.declared.Context.{Context}
use Rattle.nas_core.specs.declared.Direction.{Direction}
use Rattle.nas_core.specs.declared.Direction.TheVariants.{Uplink}
use Rattle.nas_5gs.specs.declared.Connection.{Connection}
use Rattle.nas_5gs.specs.Places.{place_of, next_at}
use Rattle.nas_5gs.specs.Leaves.{Leaves, leaves, LeavesTwo, leaves_two, change_values, use_values, open_values, eps_open_values, octet_values, verify_values}
use Rattle.nas_5gs.specs.Changes.{new_of, restore_of, reselect_of, window_of}
use Rattle.nas_5gs.specs.Seal.{seal_of, seal_opaque_of}
use Rattle.nas_5gs.specs.Initial.{initial_of}
use Rattle.nas_5gs.specs.Open.{open_of}
use Rattle.nas_5gs.specs.Eps.{eps_place, seal_eps_of, open_eps_of}
use Rattle.nas_5gs.specs.Containers.{container_place, n1_to_s1_of, verify_n1_to_s1_of, s1_to_n1_of, verify_s1_to_n1_of}
use Rattle.promise.specs.Outcomes.{Outcome as OutcomeOf}
pub use Rattle.promise.specs.Outcomes.{outcome, used_by}

-- The calls on a context. The last argument of those that write is the lent output as it was.
pub data Call : Type 0 where
  -- the new size
  set_window : ℕ → Call
  -- codes for integrity and ciphering, their keys
  reselect : ℕ → ℕ → List ℕ → List ℕ → Call
  -- header type, direction, connection, inner octets
  seal5gs seal_opaque : ℕ → Direction → Connection → List ℕ → List ℕ → Call
  -- connection, the whole initial message
  seal_initial : Connection → List ℕ → List ℕ → Call
  -- direction, connection, message; the second lent output stands last
  open5gs : Direction → Connection → List ℕ → List ℕ → List ℕ → Call
  -- inner octets; message
  seal_eps open_eps : List ℕ → List ℕ → Call
  make_n1_to_s1 : Call
  -- the octet
  verify_n1_to_s1 : ℕ → Call
  -- NCC, ngKSI
  make_s1_to_n1 : ℕ → ℕ → List ℕ → Call
  -- the value
  verify_s1_to_n1 : List ℕ → Call

-- The calls that make a context: codes for integrity and ciphering, their keys, and the four next COUNTs to restore.
pub data Making : Type 0 where
  create : ℕ → ℕ → List ℕ → List ℕ → Making
  restore : ℕ → ℕ → List ℕ → List ℕ → List ℕ → Making

-- The calls that read a number of a context, and hand back none.
pub data Reading : Type 0 where
  next_count : Direction → Connection → Reading
  window integrity ciphering : Reading

abbrev pub Outcome : Type 0
Outcome = OutcomeOf Context

-- what a call with two outputs leaves: all but the second, and the second
abbrev pub first_of : {A : Type 0} → LeavesTwo A → Leaves A
first_of (leaves_two a x out out2) = leaves a x out

abbrev pub second_of : {A : Type 0} → LeavesTwo A → List ℕ
second_of (leaves_two a x out out2) = out2

abbrev pub gives : Call → Context → Outcome
gives (set_window n) x = outcome change_values (window_of x n)
gives (reselect i c ik ck) x = outcome change_values (reselect_of x i c ik ck)
gives (seal5gs t d k inner out) x = outcome use_values (seal_of x t d k inner out)
gives (seal_opaque t d k inner out) x = outcome use_values (seal_opaque_of x t d k inner out)
gives (seal_initial k w out) x = outcome use_values (initial_of x k w out)
gives (open5gs d k m out out2) x = outcome open_values (first_of (open_of x d k m out out2))
gives (seal_eps inner out) x = outcome use_values (seal_eps_of x inner out)
gives (open_eps m out) x = outcome eps_open_values (open_eps_of x m out)
gives make_n1_to_s1 x = outcome octet_values (n1_to_s1_of x)
gives (verify_n1_to_s1 s) x = outcome verify_values (verify_n1_to_s1_of x s)
gives (make_s1_to_n1 ncc ngksi out) x = outcome use_values (s1_to_n1_of x ncc ngksi out)
gives (verify_s1_to_n1 v) x = outcome use_values (verify_s1_to_n1_of x v)

-- what then stands in the second output: no octets where none is lent
abbrev pub second : Call → Context → List ℕ
second (set_window n) x = []
second (reselect i c ik ck) x = []
second (seal5gs t d k inner out) x = []
second (seal_opaque t d k inner out) x = []
second (seal_initial k w out) x = []
second (open5gs d k m out out2) x = second_of (open_of x d k m out out2)
second (seal_eps inner out) x = []
second (open_eps m out) x = []
second make_n1_to_s1 x = []
second (verify_n1_to_s1 s) x = []
second (make_s1_to_n1 ncc ngksi out) x = []
second (verify_s1_to_n1 v) x = []

abbrev pub makes : Making → Outcome
makes (create i c ik ck) = outcome change_values (new_of i c ik ck)
makes (restore i c ik ck next) = outcome change_values (restore_of i c ik ck next)

abbrev pub reads : Reading → Context → ℕ
reads (next_count d k) x = next_at x (place_of d k)
reads window x = x.core.size
reads integrity x = x.core.integrity
reads ciphering x = x.core.ciphering

-- the output that is lent, and the second one
abbrev pub lent : Call → List ℕ
lent (set_window n) = []
lent (reselect i c ik ck) = []
lent (seal5gs t d k inner out) = out
lent (seal_opaque t d k inner out) = out
lent (seal_initial k w out) = out
lent (open5gs d k m out out2) = out
lent (seal_eps inner out) = out
lent (open_eps m out) = out
lent make_n1_to_s1 = []
lent (verify_n1_to_s1 s) = []
lent (make_s1_to_n1 ncc ngksi out) = out
lent (verify_s1_to_n1 v) = []

abbrev pub lent_second : Call → List ℕ
lent_second (set_window n) = []
lent_second (reselect i c ik ck) = []
lent_second (seal5gs t d k inner out) = []
lent_second (seal_opaque t d k inner out) = []
lent_second (seal_initial k w out) = []
lent_second (open5gs d k m out out2) = out2
lent_second (seal_eps inner out) = []
lent_second (open_eps m out) = []
lent_second make_n1_to_s1 = []
lent_second (verify_n1_to_s1 s) = []
lent_second (make_s1_to_n1 ncc ngksi out) = []
lent_second (verify_s1_to_n1 v) = []

-- The place of the record that a call works on: 0 to 3, and 4, no record, for window size and reselection, which are of all four.
abbrev pub place_in : Call → ℕ
place_in (set_window n) = 4
place_in (reselect i c ik ck) = 4
place_in (seal5gs t d k inner out) = place_of d k
place_in (seal_opaque t d k inner out) = place_of d k
place_in (seal_initial k w out) = place_of Uplink k
place_in (open5gs d k m out out2) = place_of d k
place_in (seal_eps inner out) = eps_place
place_in (open_eps m out) = eps_place
place_in make_n1_to_s1 = container_place
place_in (verify_n1_to_s1 s) = container_place
place_in (make_s1_to_n1 ncc ngksi out) = container_place
place_in (verify_s1_to_n1 v) = container_place

-- Any calls, whatever gives their outcomes: `gives`, or that of a wrong context.
module _ (G : Call → Context → Outcome) where
  -- "each on the context that the last one gave back": the last call stands first in the list
  abbrev pub context_after : Context → List Call → Context
  context_after x [] = x
  context_after x (k ∷ ks) = (G k (context_after x ks)).context

  -- the COUNTs that the answers of the calls on the record at p say were used, the last one first
  abbrev pub counts_used : ℕ → Context → List Call → List ℕ
  counts_used p x [] = []
  counts_used p x (k ∷ ks) =
      cond (eqb p (place_in k)) (used_by (G k (context_after x ks)).values) [] ++ counts_used p x ks
