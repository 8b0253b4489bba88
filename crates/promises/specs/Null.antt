-- "Under integrity code 0 (null), whatever the ciphering code, the code made is four zero octets, every received code passes, COUNTs and forward candidates go
-- round modulo 2^24, the window bits stay still, and there is no late opening; a record already exhausted stays so (refusal 6)."
use Rattle.std.specs.Prelude.{ℕ, ◌+◌, ◌%◌, ◌≤◌, ◌<◌, ◌≡◌, true, false, List, [], ◌∷◌, length, get_or}
use Rattle.count.specs.Rule.{exhausted, distance}
use Rattle.nas_core.specs.Keyed.{wraps, code_by}
use Rattle.nas_core.specs.Refusals.{limit}
use Rattle.nas_5gs.specs.declared.Context.{Context}
use Rattle.nas_core.specs.declared.Direction.{Direction}
use Rattle.nas_5gs.specs.declared.Connection.{Connection}
use Rattle.nas_5gs.specs.Places.{direction_no, place_of, record_at, next_at, fault_of}
use Rattle.nas_5gs.specs.Open.{type_of, open_refusal, room_for}
use Rattle.nas_5gs.specs.Eps.{eps_place, open_eps_refusal}
use Rattle.nas_5gs.specs.Containers.{container_place, other_algorithms}
use Rattle.promises.specs.Calls.{Call, open5gs, open_eps, verify_s1_to_n1, gives, place_in}
use Rattle.promises.specs.Words.{Succeeds, Uses}

pub record NullIntegrity (x : Context) : Type 0 where
  pub code : (c b d : ℕ) (m : List ℕ) → code_by x.core c b d m ≡ 0 ∷ 0 ∷ 0 ∷ 0 ∷ []
  -- a message that no earlier refusal stops is taken, whatever its code, as the candidate that goes round
  pub passes : (d : Direction) (k : Connection) (m out out2 : List ℕ)
      → let n = next_at x (place_of d k) in
      open_refusal x m (room_for (type_of m) (direction_no d) (length out) (length out2)) ≡ 0 → n < exhausted
      → Uses (gives (open5gs d k m out out2) x) ((n + distance 8 n (get_or m 6 0)) % exhausted)
  pub stays-exhausted : (d : Direction) (k : Connection) (m out out2 : List ℕ)
      → open_refusal x m (room_for (type_of m) (direction_no d) (length out) (length out2)) ≡ 0 → exhausted ≤ next_at x (place_of d k)
      → (gives (open5gs d k m out out2) x).values.number ≡ 6
  pub passes-eps : (m out : List ℕ)
      → let n = next_at x eps_place in
      open_eps_refusal x m (length out) ≡ 0 → n < exhausted → Uses (gives (open_eps m out) x) ((n + distance 8 n (get_or m 5 0)) % exhausted)
  pub stays-exhausted-eps : (m out : List ℕ)
      → open_eps_refusal x m (length out) ≡ 0 → exhausted ≤ next_at x eps_place → (gives (open_eps m out) x).values.number ≡ 6
  -- whatever its code, a value of 8 octets or more, within the limit, with the context's algorithms
  pub passes-s1 : (v : List ℕ)
      → fault_of x ≡ 0 → 8 ≤ length v → length v ≤ limit → other_algorithms x.core v ≡ false → next_at x container_place < exhausted
      → Succeeds (gives (verify_s1_to_n1 v) x)
  -- whatever call uses COUNT c: next goes round, the bits stay; a late opening would leave next as it is
  pub uses : (k : Call) (c : ℕ) → length x.records ≡ 4 → place_in k < 4 → Uses (gives k x) c
      → record_at (gives k x).context (place_in k) ≡ record { next = (c + 1) % exhausted; bits = (record_at x (place_in k)).bits }

abbrev pub NullHolds : Type 0
NullHolds = (x : Context) → wraps x.core ≡ true → NullIntegrity x
