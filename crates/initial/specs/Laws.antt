-- What holds of walk, container and cleartext message, whatever ciphers: stated here, proved in proofs/Laws.antt.
-- w is the message to be sealed, v the container's value, f what deciphers, p a received message.
use Rattle.std.specs.Prelude.{ℕ, ◌+◌, ◌/◌, ◌≤◌, ◌<◌, ◌≡◌, true, cond, ◌↔◌, List, [], ◌∷◌, length, take, Some, Ok}
use Rattle.look.specs.Look.{is_of, look_of}
use Rattle.initial.specs.Messages.{is_initial, mandatory_length, type_of}
use Rattle.initial.specs.Walk.{part, parts, walk_from, walk_of, span, container_of}
use Rattle.initial.specs.Outer.{is_hideable, hides, outer_of, outer_length}
use Rattle.initial.specs.Inside.{is_inside, refused, handed, value_at, hidden_of, ends_in18}

-- the walk
pub record Walks (m : List ℕ) : Type 0 where
  -- any number of steps that is enough gives the same
  pub steps : (j k at : ℕ) → length m ≤ j + at → length m ≤ k + at → walk_from m j at ≡ walk_from m k at
  -- a container's value lies in its message, behind the mandatory part
  pub within : (start n : ℕ) → container_of m ≡ Ok (Some (span start n)) → (mandatory_length m < start) × (start + n ≤ length m)
  -- where the walk succeeds, the mandatory part is all there
  pub whole : is_hideable m ≡ true → mandatory_length m ≤ length m

-- what goes out
pub record Out (w v : List ℕ) : Type 0 where
  pub length-is : mandatory_length w ≤ length w → length v ≡ length w → length (outer_of w v) ≡ outer_length w
  pub no-shorter : length w ≤ outer_length w
  -- two length octets suffice for what refusal 4 lets pass
  pub two-octets : outer_length w ≤ 65535 → length w / 256 < 256
  -- it begins as w does, so that it has w's type and mandatory part
  pub front : (n : ℕ) → mandatory_length w ≤ length w → n ≤ mandatory_length w → take n (outer_of w v) ≡ take n w
  pub initial : mandatory_length w ≤ length w → is_initial (outer_of w v) ≡ is_initial w
  -- it walks to one part, the container with exactly v
  pub walk : mandatory_length w ≤ length w → hides w ≡ true → walk_of (outer_of w v) ≡ parts (part 0x71 (mandatory_length w + 3) (length v) ∷ [])
  pub value : mandatory_length w ≤ length w → hides w ≡ true → value_at (outer_of w v) (mandatory_length w + 3) (length v) ≡ v

-- what is inside
pub record In (f : List ℕ → List ℕ) (p : List ℕ) : Type 0 where
  -- an initial message passes the look under header type 1, uplink
  pub looks : is_initial p ≡ true → look_of 1 0 p ≡ 0
  -- so the type alone decides on the container's message, and its first three octets on the type
  pub by-type : (q : List ℕ) → is_initial p ≡ true → is_inside p q ≡ is_of (type_of p) q
  pub by_three : (q : List ℕ) → is_initial p ≡ true → is_inside p (take 3 q) ≡ is_inside p q
  -- when an ordinary seal ends in 8 carrying 18
  pub ends : is_initial p ≡ true → (hidden_of 1 0 f p ≡ refused) ↔ (ends_in18 f p ≡ true)

pub record Laws : Type 0 where
  pub walks : (m : List ℕ) → Walks m
  pub out : (w v : List ℕ) → Out w v
  pub inside : (f : List ℕ → List ℕ) (p : List ℕ) → In f p
  -- the round trip: where f deciphers v to w, the container's message is w, and there is none where nothing is hidden
  pub back : (f : List ℕ → List ℕ) (w v : List ℕ) → is_initial w ≡ true → is_hideable w ≡ true → f v ≡ w
      → hidden_of 1 0 f (outer_of w v) ≡ handed (cond (hides w) w [])
