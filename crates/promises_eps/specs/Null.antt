-- "Null integrity, both kinds: the code is zeros (two for SERVICE REQUEST), every received one passes, the candidate goes round modulo 2^24, bits stay, nothing is
-- late, an exhausted record stays so (6)."
use Rattle.std.specs.Prelude.{ℕ, ◌+◌, ◌%◌, ◌≤◌, ◌<◌, ◌≡◌, true, false, List, [], ◌∷◌, length, get_or}
use Rattle.count.specs.Rule.{exhausted, distance}
use Rattle.nas_core.specs.Keyed.{wraps, code_by}
use Rattle.nas_eps.specs.declared.Context.{Context}
use Rattle.nas_core.specs.declared.Direction.{Direction}
use Rattle.nas_core.specs.declared.Direction.TheVariants.{Uplink}
use Rattle.nas_eps.specs.Places.{uplink, place_of, record_at, next_at}
use Rattle.nas_eps.specs.Octets.{is_request, short_code}
use Rattle.nas_eps.specs.Open.{open_refusal}
use Rattle.promises_eps.specs.Calls.{Call, open_message, gives, place_in}
use Rattle.promises_eps.specs.Words.{Uses}

pub record NullIntegrity (x : Context) : Type 0 where
  pub code : (c b d : ℕ) (m : List ℕ) → code_by x.core c b d m ≡ 0 ∷ 0 ∷ 0 ∷ 0 ∷ []
  pub short-code : (c : ℕ) (m : List ℕ) → short_code x.core c m ≡ 0 ∷ 0 ∷ []
  -- a message that no earlier refusal stops is taken, whatever its code, as the candidate that goes round
  pub passes : (d : Direction) (m out : List ℕ)
      → let n = next_at x (place_of d) in
      open_refusal x (place_of d) m (length out) ≡ 0 → is_request m ≡ false → n < exhausted
      → Uses (gives (open_message d m out) x) ((n + distance 8 n (get_or m 5 0)) % exhausted)
  pub request-passes : (m out : List ℕ)
      → let n = next_at x uplink in
      open_refusal x uplink m (length out) ≡ 0 → is_request m ≡ true → n < exhausted
      → Uses (gives (open_message Uplink m out) x) ((n + distance 5 n (get_or m 1 0 % 32)) % exhausted)
  pub stays-exhausted : (d : Direction) (m out : List ℕ)
      → open_refusal x (place_of d) m (length out) ≡ 0 → exhausted ≤ next_at x (place_of d) → (gives (open_message d m out) x).values.number ≡ 6
  -- whatever call uses COUNT c: next goes round, the bits stay; a late opening would leave next as it is
  pub uses : (k : Call) (c : ℕ) → length x.records ≡ 2 → place_in k < 2 → Uses (gives k x) c
      → record_at (gives k x).context (place_in k) ≡ record { next = (c + 1) % exhausted; bits = (record_at x (place_in k)).bits }

abbrev pub NullHolds : Type 0
NullHolds = (x : Context) → wraps x.core ≡ true → NullIntegrity x
