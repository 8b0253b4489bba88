-- Demand 2 of the EPS context, of what can be stated over the definitions: what follows for a sealer z and an opener x with the same keys and codes. The calls'
-- contracts are equations with the definitions of aes, snow3g, zuc, algorithms, count, nas_core and nas_eps, which are written from the standards.
use Rattle.std.specs.Prelude.{ℕ, ◌+◌, ◌%◌, ◌≤◌, ◌<◌, ◌≡◌, Bool, true, false, ◌||◌, ◌⊎◌, ◌↔◌, List, [], ◌∷◌, length, get_or, take, drop, None, Some}
use Rattle.count.specs.Rule.{exhausted, forward_of, late_of}
use Rattle.count.specs.Table.{next}
use Rattle.nas_core.specs.Keyed.{wraps, code_by, payload}
use Rattle.nas_core.specs.Refusals.{limit}
use Rattle.nas_core.specs.Verify.{same, fits}
use Rattle.nas_eps.specs.declared.Context.{Context}
use Rattle.nas_core.specs.declared.Direction.{Direction}
use Rattle.nas_core.specs.declared.Direction.TheVariants.{Uplink}
use Rattle.nas_eps.specs.Places.{uplink, place_of, record_at, next_at, fault_of}
use Rattle.nas_eps.specs.Leaves.{refusal}
use Rattle.nas_eps.specs.Octets.{bearer, message, is_request, service_request, short_fits}
use Rattle.promises_eps.specs.Calls.{Call, Outcome, seal_message, seal_request, open_message, gives}
use Rattle.promises_eps.specs.Words.{SameKeys, Succeeds, Uses, written, TakenAs, AnswersRequest}

-- A seal succeeds exactly when nothing that request 6 refuses stands against it.
pub record Accepts (z : Context) : Type 0 where
  pub seal : (t : ℕ) (d : Direction) (inner out : List ℕ)
      → Succeeds (gives (seal_message t d inner out) z)
      ↔ ((fault_of z ≡ 0) × (1 ≤ t) × (t ≤ 4) × (length inner ≤ limit) × (6 + length inner ≤ length out) × (next_at z (place_of d) < exhausted))
  pub request : (i : ℕ) (out : List ℕ)
      → Succeeds (gives (seal_request i out) z) ↔ ((fault_of z ≡ 0) × (i ≤ 7) × (4 ≤ length out) × (next_at z uplink < exhausted))

-- What a seal writes is the message for the COUNT that it answers, the record's next one: "a message sealed for c" of demand 3.
pub record Writes (z : Context) : Type 0 where
  pub seal : (t : ℕ) (d : Direction) (inner out : List ℕ)
      → let s = gives (seal_message t d inner out) z in
      Succeeds s
      → Uses s (next_at z (place_of d))
      × (written s ≡ message z.core t s.values.count (place_of d) inner)
      × (s.values.wrote ≡ 6 + length inner)
  pub request : (i : ℕ) (out : List ℕ)
      → let s = gives (seal_request i out) z in
      Succeeds s → Uses s (next_at z uplink) × (written s ≡ service_request z.core i s.values.count) × (s.values.wrote ≡ 4)

-- "Round trip for both seals": with an opener that uses that COUNT, which demand 3 says when it does.
pub record RoundTrip (z x : Context) : Type 0 where
  pub seal : (t : ℕ) (d : Direction) (inner out room : List ℕ)
      → let s = gives (seal_message t d inner out) z in
      let o = gives (open_message d (written s) room) x in
      Succeeds s → Uses o s.values.count → Succeeds o × (o.values.header ≡ t) × TakenAs o s.values.count inner room
  pub request : (i : ℕ) (out room : List ℕ)
      → let s = gives (seal_request i out) z in
      let o = gives (open_message Uplink (written s) room) x in
      Succeeds s → Uses o s.values.count → AnswersRequest o s.values.count i room

-- "Sealing nothing is allowed .., gives 6 octets and uses a COUNT; opening them is 1"
pub record SealedNothing (z x : Context) : Type 0 where
  pub gives-6 : (t : ℕ) (d : Direction) (out : List ℕ)
      → let s = gives (seal_message t d [] out) z in Succeeds s → (s.values.wrote ≡ 6) × Uses s (next_at z (place_of d))
  pub refused : (t : ℕ) (d d' : Direction) (out room : List ℕ)
      → let s = gives (seal_message t d [] out) z in
      Succeeds s → fault_of x ≡ 0 → (gives (open_message d' (written s) room) x).values ≡ refusal 1

-- What is said of the octets beside.
pub record Octets (x : Context) : Type 0 where
  -- under ciphering code 0 no octet is changed
  pub unchanged : x.core.ciphering ≡ 0 → (ciphered : Bool) (c b d : ℕ) (m : List ℕ) → payload x.core ciphered c b d m ≡ m
  -- "The code covers last octet and payload as sent, not the first octet."
  pub covers : (c d first : ℕ) (m : List ℕ)
      → fits x.core c bearer d 1 (first ∷ m) ≡ (wraps x.core || same (take 4 m) (code_by x.core c bearer d (drop 4 m)))
  -- "The code covers the first two octets, uplink, bearer 0", and its third and fourth octets are compared
  pub covers-two : (c a b e f : ℕ)
      → short_fits x.core c (a ∷ b ∷ e ∷ f ∷ []) ≡ (wraps x.core || same (e ∷ f ∷ []) (drop 2 (code_by x.core c 0 0 (a ∷ b ∷ []))))

-- A COUNT that an open call answers is a candidate of the COUNT rule for what the message carries, and the code received is right for it.
pub record Estimates (G : Call → Context → Outcome) (x : Context) : Type 0 where
  pub opens : (d : Direction) (m out : List ℕ) (c : ℕ)
      → let r = record_at x (place_of d) in
      is_request m ≡ false → Uses (G (open_message d m out) x) c
      → ((late_of 8 x.core.size r (get_or m 5 0) ≡ Some c) ⊎ (forward_of 8 (wraps x.core) r (get_or m 5 0) ≡ Some c))
      × (fits x.core c bearer (place_of d) 1 m ≡ true)
  pub requests : (d : Direction) (m out : List ℕ) (c : ℕ)
      → is_request m ≡ true → Uses (G (open_message d m out) x) c
      → (d ≡ Uplink) × (forward_of 5 (wraps x.core) (record_at x uplink) (get_or m 1 0 % 32) ≡ Some c) × (short_fits x.core c m ≡ true)

-- "Estimates to run": next COUNT and five bits
pub record FiveBits : Type 0 where
  pub P1 : forward_of 5 false (next 0) 31 ≡ Some 31
  pub P2 : forward_of 5 false (next 6) 3 ≡ Some 35
  pub P3 : forward_of 5 false (next 300) 11 ≡ Some 331
  pub P4 : forward_of 5 false (next 16777215) 31 ≡ Some 16777215
  pub P5 : forward_of 5 false (next 16777215) 30 ≡ None
  -- null integrity: "Next 16,777,215 and five bits 0: COUNT 0"
  pub round : forward_of 5 true (next 16777215) 0 ≡ Some 0

pub record Demand2 : Type 0 where
  pub accepts : (z : Context) → Accepts z
  pub writes : (z : Context) → Writes z
  pub returns : (z x : Context) → SameKeys z.core x.core → RoundTrip z x
  pub nothing : (z x : Context) → SealedNothing z x
  pub octets : (x : Context) → Octets x
  pub estimates : (x : Context) → Estimates gives x
  pub five-bits : FiveBits
