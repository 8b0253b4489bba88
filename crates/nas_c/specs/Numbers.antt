-- The calls for C over a 5GS context: directions and connections as numbers, every answer as one struct of its values.
use Rattle.std.specs.Prelude.{ℕ, Bool, cond, ◌||◌, List, eqb, ltb, Result, Ok, Err}
use Rattle.refusals.specs.Numbers.{number_of}
use Rattle.nas_core.specs.Leaves.{Leaves}
use Rattle.nas_5gs.specs.declared.Context.{Context}
use Rattle.nas_core.specs.declared.Direction.{Direction}
use Rattle.nas_core.specs.declared.Direction.TheVariants.{Uplink, Downlink}
use Rattle.nas_5gs.specs.declared.Connection.{Connection}
use Rattle.nas_5gs.specs.declared.Connection.TheVariants.{ThreeGpp, Non3Gpp}
use Rattle.nas_5gs.specs.declared.OpenError.{OpenError}
use Rattle.nas_5gs.specs.declared.OpenError.TheVariants.{Refused, Content}
use Rattle.nas_5gs.specs.Leaves.{leaves, LeavesTwo, leaves_two, Values, refusal, change_values, use_values, open_values, eps_open_values, octet_values, verify_values}
use Rattle.nas_5gs.specs.Places.{bearer_no, place_of, next_at}
use Rattle.handover.specs.Across.{LeavesAcross, leaves_across, across_of}
use Rattle.nas_5gs.specs.Changes.{new_of, restore_of, reselect_of, window_of}
use Rattle.nas_5gs.specs.Seal.{seal_of, seal_opaque_of}
use Rattle.nas_5gs.specs.Initial.{initial_of}
use Rattle.nas_5gs.specs.Open.{open_of}
use Rattle.nas_5gs.specs.Eps.{seal_eps_of, open_eps_of}
use Rattle.nas_5gs.specs.Containers.{n1_to_s1_of, verify_n1_to_s1_of, s1_to_n1_of, verify_s1_to_n1_of}
use Rattle.nas_c.specs.declared.Shown.{Shown}

-- directions are 0 and 1, connections 1 and 2
unfoldable pub no_direction : ℕ → Bool
no_direction d = ltb 1 d

unfoldable pub no_connection : ℕ → Bool
no_connection k = ltb k 1 || ltb 2 k

unfoldable pub no_way : ℕ → ℕ → Bool
no_way d k = no_direction d || no_connection k

unfoldable pub direction_of : ℕ → Direction
direction_of d = cond (eqb d 0) Uplink Downlink

unfoldable pub connection_of : ℕ → Connection
connection_of k = cond (eqb k 1) ThreeGpp Non3Gpp

-- an answer's values, 0 where it has none; the numbers that calls put in different places are given
abbrev pub shown_by : ℕ → ℕ → ℕ → Values → Shown
shown_by carried octet connection v =
    record {
      number = v.number;
      carried = carried;
      header_type = v.header;
      octet = octet;
      connection = connection;
      count = v.count;
      distance = v.distance;
      wrote = v.wrote;
      second = v.second;
    }

abbrev pub shown_with : ℕ → ℕ → Values → Shown
shown_with carried octet v = shown_by carried octet 0 v

abbrev pub shown : Values → Shown
shown v = shown_with v.carried v.octet v

-- with the connection that a COUNT was used on
abbrev pub shown_on : Connection → Values → Shown
shown_on k v = shown_by v.carried v.octet (cond v.uses (bearer_no k) 0) v

-- a number that is no direction or connection: 19, before all else
abbrev pub no_such_way : Shown
no_such_way = shown (refusal 19)

-- a value shown as its type says, or an error as its type does
abbrev pub shown_result : {T E : Type 0} → (T → Shown) → (E → Shown) → Result T E → Shown
shown_result value error (Ok x) = value x
shown_result value error (Err e) = error e

-- refusal 8 hands over a message, and carries a number
abbrev pub shown_error : {M : Type 0} → (M → Shown) → OpenError M → Shown
shown_error message (Refused r) = shown (refusal (number_of r))
shown_error message (Content m r) = record {
  number = 8;
  carried = number_of r;
  header_type = (message m).header_type;
  octet = (message m).octet;
  connection = (message m).connection;
  count = (message m).count;
  distance = (message m).distance;
  wrote = (message m).wrote;
  second = (message m).second;
}

-- what a call leaves, its answer shown
abbrev pub numbers : {X A : Type 0} → (Values → Shown) → (A → Values) → Leaves X A → Leaves X Shown
numbers shows values (leaves a x out) = leaves (shows (values a)) x out

abbrev pub numbers_two : {A : Type 0} → (A → Values) → LeavesTwo A → LeavesTwo Shown
numbers_two values (leaves_two a x out second) = leaves_two (shown (values a)) x out second

abbrev pub numbers_across : LeavesAcross → LeavesTwo Shown
numbers_across (leaves_across k a x out second) = leaves_two (shown_on k (open_values a)) x out second

-- a call on one direction of one connection, or what stands for it if there is no such way
abbrev pub way_or : {R : Type 0} → ℕ → ℕ → R → (Direction → Connection → R) → R
way_or d k none call = cond (no_way d k) none (call (direction_of d) (connection_of k))

unfoldable pub new_numbers : ℕ → ℕ → List ℕ → List ℕ → Leaves Context Shown
new_numbers i c ik ck = numbers shown change_values (new_of i c ik ck)

unfoldable pub restore_numbers : ℕ → ℕ → List ℕ → List ℕ → List ℕ → Leaves Context Shown
restore_numbers i c ik ck next = numbers shown change_values (restore_of i c ik ck next)

unfoldable pub reselect_numbers : Context → ℕ → ℕ → List ℕ → List ℕ → Leaves Context Shown
reselect_numbers x i c ik ck = numbers shown change_values (reselect_of x i c ik ck)

unfoldable pub window_numbers : Context → ℕ → Leaves Context Shown
window_numbers x n = numbers shown change_values (window_of x n)

-- answered where there is no such way: it is no next COUNT
abbrev pub no_count : ℕ
no_count = 4294967295

unfoldable pub next_count_number : Context → ℕ → ℕ → ℕ
next_count_number x d k = way_or d k no_count (λ d k. next_at x (place_of d k))

unfoldable pub seal_numbers : Context → ℕ → ℕ → ℕ → List ℕ → List ℕ → Leaves Context Shown
seal_numbers x t d k inner out =
    way_or d k (leaves no_such_way x out) (λ d k. numbers shown use_values (seal_of x t d k inner out))

unfoldable pub opaque_numbers : Context → ℕ → ℕ → ℕ → List ℕ → List ℕ → Leaves Context Shown
opaque_numbers x t d k inner out =
    way_or d k (leaves no_such_way x out) (λ d k. numbers shown use_values (seal_opaque_of x t d k inner out))

-- always uplink
unfoldable pub initial_numbers : Context → ℕ → List ℕ → List ℕ → Leaves Context Shown
initial_numbers x k whole out =
    cond (no_connection k) (leaves no_such_way x out) (numbers shown use_values (initial_of x (connection_of k) whole out))

unfoldable pub open_numbers : Context → ℕ → ℕ → List ℕ → List ℕ → List ℕ → LeavesTwo Shown
open_numbers x d k m out second =
    way_or d k (leaves_two no_such_way x out second) (λ d k. numbers_two open_values (open_of x d k m out second))

unfoldable pub across_numbers : Context → ℕ → ℕ → List ℕ → List ℕ → List ℕ → LeavesTwo Shown
across_numbers x d k m out second =
    way_or d k (leaves_two no_such_way x out second) (λ d k. numbers_across (across_of x d k m out second))

-- messages and containers of a UE that goes between 5GS and EPS, of fixed direction and connection
unfoldable pub seal_eps_numbers : Context → List ℕ → List ℕ → Leaves Context Shown
seal_eps_numbers x inner out = numbers shown use_values (seal_eps_of x inner out)

unfoldable pub open_eps_numbers : Context → List ℕ → List ℕ → Leaves Context Shown
open_eps_numbers x m out = numbers shown eps_open_values (open_eps_of x m out)

unfoldable pub n1_to_s1_numbers : Context → Leaves Context Shown
n1_to_s1_numbers x = numbers shown octet_values (n1_to_s1_of x)

unfoldable pub verify_n1_to_s1_numbers : Context → ℕ → Leaves Context Shown
verify_n1_to_s1_numbers x octet = numbers shown verify_values (verify_n1_to_s1_of x octet)

unfoldable pub s1_to_n1_numbers : Context → ℕ → ℕ → List ℕ → Leaves Context Shown
s1_to_n1_numbers x ncc ngksi out = numbers shown use_values (s1_to_n1_of x ncc ngksi out)

unfoldable pub verify_s1_to_n1_numbers : Context → List ℕ → Leaves Context Shown
verify_s1_to_n1_numbers x value = numbers shown use_values (verify_s1_to_n1_of x value)
