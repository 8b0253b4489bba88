-- Request 8: "Every accepted open and refusal 8 passes it on, and so does N1-to-S1 verifying. The distance is fixed by the record before the call. Two opens that
-- agree in COUNT and record agree in it." What the distance is of a record and a COUNT: crate count, Rule.`distance_of`.
use Rattle.std.specs.Prelude.{ℕ, ◌+◌, ◌-◌, ◌%◌, ◌≡◌, true, ◌⊎◌}
use Rattle.count.specs.Rule.{exhausted, distance_of}
use Rattle.nas_5gs.specs.declared.Context.{Context}
use Rattle.nas_5gs.specs.Places.{record_at, next_at, used, used_late}
use Rattle.promises.specs.Calls.{Call, set_window, reselect, seal5gs, seal_opaque, seal_initial, open5gs, seal_eps, open_eps, make_n1_to_s1, verify_n1_to_s1, make_s1_to_n1, verify_s1_to_n1, Outcome, gives, place_in}
use Rattle.promises.specs.Demand1.{MayBeLate}

-- the calls that tell a distance
abbrev pub Tells : Call → Type 0
Tells (set_window n) = ⊥
Tells (reselect i c ik ck) = ⊥
Tells (seal5gs t d k inner out) = ⊥
Tells (seal_opaque t d k inner out) = ⊥
Tells (seal_initial k w out) = ⊥
Tells (open5gs d k m out out2) = Unit {0}
Tells (seal_eps inner out) = ⊥
Tells (open_eps m out) = Unit {0}
Tells make_n1_to_s1 = ⊥
Tells (verify_n1_to_s1 s) = Unit {0}
Tells (make_s1_to_n1 ncc ngksi out) = ⊥
Tells (verify_s1_to_n1 v) = ⊥

-- "for a forward candidate, how far above next (modulo 2^24 under null integrity); for a late one, how far below the highest used", next - 1: of a COUNT used
-- in the record at p, late only if L
abbrev pub Counted : Type 0 → Context → ℕ → Outcome → Type 0
Counted L x p o =
    let c = o.values.count in
    let far = o.values.distance in
    ((o.context ≡ used x p c) × ((next_at x p + far) % exhausted ≡ c)) ⊎ (L × (o.context ≡ used_late x p c) × (c + far ≡ next_at x p - 1))

pub record Skipped : Type 0 where
  pub counted : (k : Call) (x : Context) → Tells k → (gives k x).values.uses ≡ true → Counted (MayBeLate k) x (place_in k) (gives k x)
  -- where a COUNT is used, by a success or by 8: that of the record before the call and the COUNT answered
  pub told : (k : Call) (x : Context) → Tells k → let v = (gives k x).values in
      v.uses ≡ true → v.distance ≡ distance_of (record_at x (place_in k)) v.count
  -- whatever the messages and the calls
  pub agree : (k k' : Call) (x x' : Context) → Tells k → Tells k' → let v = (gives k x).values in let v' = (gives k' x').values in
      v.uses ≡ true → v'.uses ≡ true → v.count ≡ v'.count → record_at x (place_in k) ≡ record_at x' (place_in k') → v.distance ≡ v'.distance
  -- seals, S1-to-N1 calls and the rest tell none
  pub silent : (k : Call) (x : Context) → (Tells k → ⊥) → (gives k x).values.distance ≡ 0
