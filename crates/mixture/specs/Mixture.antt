-- Request 12: "Offer seal, open and the window setting over a context lent to be changed in place, as thin covers: each does what the call that hands the
-- context back does, and a refusal other than 8 leaves the lent context as it was. Demand 3 holds for any mixture of both kinds."
-- A host keeps a context and makes calls of both kinds on it: by value, and it keeps the context that comes back; in place, and the context is changed where
-- it lies. The kind of a call enters nothing that is answered or left, so that a mixture is a run of the calls by value, of which the promises speak.
use Rattle.std.specs.Prelude.{ℕ, ◌<◌, ◌≡◌, cond, List, [], ◌∷◌, ◌++◌, map, length, eqb}
use Rattle.count.specs.Run.{NoneTwice}
use Rattle.nas_5gs.specs.declared.Context.{Context}
use Rattle.nas_core.specs.declared.Direction.{Direction}
use Rattle.nas_5gs.specs.declared.Connection.{Connection}
use Rattle.nas_5gs.specs.Places.{place_of, record_at}
use Rattle.nas_5gs.specs.Leaves.{change_values, use_values, open_values}
use Rattle.nas_5gs.specs.Changes.{window_of}
use Rattle.nas_5gs.specs.Seal.{seal_of}
use Rattle.nas_5gs.specs.Open.{open_of}
use Rattle.promises.specs.Calls.{Call, set_window, seal5gs, open5gs, Outcome, outcome, used_by, first_of, second_of, gives, second, lent, lent_second, place_in, context_after, counts_used}
use Rattle.promises.specs.Demand3.{Begins, NeverToNull, Demand3}
use Rattle.promises.specs.Isolation.{Elsewhere, Isolated}

-- The calls of nas_host, by their arguments beside the lent context, as in Calls.`Call`.
pub data InPlace : Type 0 where
  window_in : ℕ → InPlace
  seal_in : ℕ → Direction → Connection → List ℕ → List ℕ → InPlace
  open_in : Direction → Connection → List ℕ → List ℕ → List ℕ → InPlace

-- what they answer and leave, the context being the lent one at the end: the definitions that their contracts cite (crate covers)
abbrev pub changes : InPlace → Context → Outcome
changes (window_in n) x = outcome change_values (window_of x n)
changes (seal_in t d k inner out) x = outcome use_values (seal_of x t d k inner out)
changes (open_in d k m out out2) x = outcome open_values (first_of (open_of x d k m out out2))

-- what then stands in the second output
abbrev pub changes_second : InPlace → Context → List ℕ
changes_second (window_in n) x = []
changes_second (seal_in t d k inner out) x = []
changes_second (open_in d k m out out2) x = second_of (open_of x d k m out out2)

-- "the call that hands the context back"
abbrev pub handing : InPlace → Call
handing (window_in n) = set_window n
handing (seal_in t d k inner out) = seal5gs t d k inner out
handing (open_in d k m out out2) = open5gs d k m out out2

-- a call of either kind
pub data AnyCall : Type 0 where
  by_value : Call → AnyCall
  in_place : InPlace → AnyCall

abbrev pub leaves_by : AnyCall → Context → Outcome
leaves_by (by_value k) x = gives k x
leaves_by (in_place l) x = changes l x

abbrev pub leaves_second : AnyCall → Context → List ℕ
leaves_second (by_value k) x = second k x
leaves_second (in_place l) x = changes_second l x

abbrev pub call_of : AnyCall → Call
call_of (by_value k) = k
call_of (in_place l) = handing l

-- the context that the host has after a mixture: the last call stands first in the list
abbrev pub kept_after : Context → List AnyCall → Context
kept_after x [] = x
kept_after x (s ∷ ss) = (leaves_by s (kept_after x ss)).context

-- the COUNTs that the answers of its calls on the record at p say were used, the last one first
abbrev pub used_in : ℕ → Context → List AnyCall → List ℕ
used_in p x [] = []
used_in p x (s ∷ ss) =
    cond (eqb p (place_in (call_of s))) (used_by (leaves_by s (kept_after x ss)).values) [] ++ used_in p x ss

-- Of a mixture, and of its calls as they are by value, in the same order.
pub record Mixed (x : Context) (ss : List AnyCall) : Type 0 where
  pub context : kept_after x ss ≡ context_after gives x (map call_of ss)
  pub counts : (p : ℕ) → used_in p x ss ≡ counts_used gives p x (map call_of ss)
  -- what a next call, of either kind, answers and leaves
  pub next : (s : AnyCall) → leaves_by s (kept_after x ss) ≡ gives (call_of s) (context_after gives x (map call_of ss))
  pub next-second : (s : AnyCall) → leaves_second s (kept_after x ss) ≡ second (call_of s) (context_after gives x (map call_of ss))

pub record Mixture : Type 0 where
  -- "each does what the call that hands the context back does"
  pub same : (l : InPlace) (x : Context) → (changes l x ≡ gives (handing l) x) × (changes_second l x ≡ second (handing l) x)
  -- "and a refusal other than 8 leaves the lent context as it was", and both outputs
  pub kept : (l : InPlace) (x : Context)
      → let o = changes l x in
      (o.values.number ≡ 0 → ⊥) → (o.values.number ≡ 8 → ⊥)
      → (o.context ≡ x) × (o.output ≡ lent (handing l)) × (changes_second l x ≡ lent_second (handing l))
  -- any mixture is its calls
  pub mixed : (x : Context) (ss : List AnyCall) → Mixed x ss
  -- "Demand 3 holds for any mixture of both kinds": no COUNT that its answers name is named twice, and of every message what demand 3 says after its calls,
  -- which `mixed` carries to the context that the host has and to opens of either kind
  pub demand3 : (x : Context) → Begins x → (ss : List AnyCall) → NeverToNull gives x (map call_of ss)
      → ((d : Direction) (k : Connection) → NoneTwice (used_in (place_of d k) x ss)) × Demand3 gives x (map call_of ss)
  -- and so does isolation
  pub isolation : (x : Context) → length x.records ≡ 4 → (p : ℕ) → p < 4 → (ss : List AnyCall) → Elsewhere p (map call_of ss)
      → (record_at (kept_after x ss) p ≡ record_at x p) × Isolated x p (map call_of ss)
