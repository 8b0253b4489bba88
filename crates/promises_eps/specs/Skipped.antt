-- The distance that opens answer (request 8): how far above next, modulo 2^24 under null integrity, or, late, how far below the highest used. For a SERVICE REQUEST
-- it is 0 to 31.
use Rattle.std.specs.Prelude.{ℕ, ◌+◌, ◌-◌, ◌%◌, ◌<◌, ◌≡◌, true, ◌⊎◌, List}
use Rattle.count.specs.Rule.{exhausted, distance_of}
use Rattle.nas_eps.specs.declared.Context.{Context}
use Rattle.nas_core.specs.declared.Direction.{Direction}
use Rattle.nas_eps.specs.Places.{record_at, next_at, used, used_late}
use Rattle.nas_eps.specs.Octets.{is_request}
use Rattle.promises_eps.specs.Calls.{Call, set_window, reselect, seal_message, seal_request, open_message, Outcome, gives, place_in}
use Rattle.promises_eps.specs.Demand1.{MayBeLate}

-- the calls that tell a distance
abbrev pub Tells : Call → Type 0
Tells (set_window n) = ⊥
Tells (reselect i c ik ck) = ⊥
Tells (seal_message t d inner out) = ⊥
Tells (seal_request i out) = ⊥
Tells (open_message d m out) = Unit {0}

-- of a COUNT used in the record at p, late only if L
abbrev pub Counted : Type 0 → Context → ℕ → Outcome → Type 0
Counted L x p o =
    let c = o.values.count in
    let far = o.values.distance in
    ((o.context ≡ used x p c) × ((next_at x p + far) % exhausted ≡ c)) ⊎ (L × (o.context ≡ used_late x p c) × (c + far ≡ next_at x p - 1))

pub record Skipped : Type 0 where
  pub counted : (k : Call) (x : Context) → Tells k → (gives k x).values.uses ≡ true → Counted (MayBeLate k) x (place_in k) (gives k x)
  -- that of the record before the call and the COUNT answered
  pub told : (k : Call) (x : Context) → Tells k → let v = (gives k x).values in
      v.uses ≡ true → v.distance ≡ distance_of (record_at x (place_in k)) v.count
  -- whatever the messages and the calls
  pub agree : (k k' : Call) (x x' : Context) → Tells k → Tells k' → let v = (gives k x).values in let v' = (gives k' x').values in
      v.uses ≡ true → v'.uses ≡ true → v.count ≡ v'.count → record_at x (place_in k) ≡ record_at x' (place_in k') → v.distance ≡ v'.distance
  pub request : (d : Direction) (m out : List ℕ) (x : Context) → is_request m ≡ true → let v = (gives (open_message d m out) x).values in
      v.uses ≡ true → v.distance < 32
  -- seals and the rest tell none
  pub silent : (k : Call) (x : Context) → (Tells k → ⊥) → (gives k x).values.distance ≡ 0
