-- Demand 2, of what can be stated over the definitions: "Codes, keystream, estimates and containers proved against definitions from the standards. Sealing
-- then opening returns the inner octets." The calls' contracts are equations with the definitions of aes, algorithms, count, nas_core and nas_5gs, which are
-- written from the standards; here is what follows for a sealer z and an opener x with the same keys and codes.
use Rattle.std.specs.Prelude.{ℕ, ◌+◌, ◌*◌, ◌/◌, ◌%◌, ◌≤◌, ◌<◌, ◌≡◌, Bool, true, false, ◌||◌, ◌⊎◌, ◌↔◌, List, [], ◌∷◌, length, get_or, take, drop, Some}
use Rattle.count.specs.Rule.{exhausted, forward_of, late_of}
use Rattle.nas_core.specs.Keyed.{wraps, code_by, payload}
use Rattle.nas_core.specs.Refusals.{limit}
use Rattle.nas_core.specs.Verify.{same, fits}
use Rattle.look.specs.Look.{look_of}
use Rattle.nas_5gs.specs.declared.Context.{Context}
use Rattle.initial.specs.Messages.{is_initial}
use Rattle.initial.specs.Outer.{is_hideable, hides, outer_length}
use Rattle.initial.specs.Inside.{is_asked, ends_in18}
use Rattle.envelope.specs.Initial.{outgoing, initial_envelope}
use Rattle.nas_core.specs.declared.Direction.{Direction}
use Rattle.nas_core.specs.declared.Direction.TheVariants.{Uplink}
use Rattle.nas_5gs.specs.declared.Connection.{Connection}
use Rattle.nas_5gs.specs.Places.{direction_no, bearer_no, place_of, record_at, next_at, fault_of}
use Rattle.nas_5gs.specs.Leaves.{over, refusal}
use Rattle.nas_5gs.specs.Envelope.{envelope}
use Rattle.nas_5gs.specs.Eps.{eps_place, eps_bearer, eps_direction, not_eps, eps_message}
use Rattle.nas_5gs.specs.Containers.{container_place, container_bearer, container_direction, s1_count, s1_to_n1}
use Rattle.promises.specs.Calls.{Call, Outcome, seal5gs, seal_opaque, seal_initial, open5gs, seal_eps, open_eps, make_n1_to_s1, verify_n1_to_s1, make_s1_to_n1, verify_s1_to_n1, gives, second}
use Rattle.promises.specs.Words.{SameKeys, Ahead, Succeeds, Uses, written, TakenAs}

-- n octets can be sent behind a header: a context without fault, a COUNT to send, octets within the limit, room for both
pub record CanSend (z : Context) (p header n : ℕ) (out : List ℕ) : Type 0 where
  pub faultless : fault_of z ≡ 0
  pub count : next_at z p < exhausted
  pub short : n ≤ limit
  pub room : header + n ≤ length out

-- what verifying S1-to-N1 asks of a value: "compares the four bits of each algorithm", and the code "over everything from the fifth octet"
pub record Passes (x : Context) (v : List ℕ) : Type 0 where
  pub faultless : fault_of x ≡ 0
  pub long : 8 ≤ length v
  pub short : length v ≤ limit
  pub ciphering : get_or v 4 0 / 16 ≡ x.core.ciphering
  pub integrity : get_or v 4 0 % 16 ≡ x.core.integrity
  pub count : next_at x container_place < exhausted
  pub code : fits x.core s1_count container_bearer container_direction 0 v ≡ true

-- A seal or a container call succeeds exactly when nothing that document 01 refuses stands against it.
pub record Accepts (z : Context) : Type 0 where
  pub opaque : (t : ℕ) (d : Direction) (k : Connection) (inner out : List ℕ)
      → Succeeds (gives (seal_opaque t d k inner out) z) ↔ (CanSend z (place_of d k) 7 (length inner) out × (1 ≤ t) × (t ≤ 4))
  pub seal : (t : ℕ) (d : Direction) (k : Connection) (inner out : List ℕ)
      → Succeeds (gives (seal5gs t d k inner out) z) ↔ (CanSend z (place_of d k) 7 (length inner) out × (1 ≤ t) × (t ≤ 4) × (look_of t (direction_no d) inner ≡ 0))
  -- an initial message that is walked to its end and has no container; what goes out is what is sent
  pub initial : (k : Connection) (w out : List ℕ)
      → Succeeds (gives (seal_initial k w out) z)
      ↔ (CanSend z (place_of Uplink k) 7 (outer_length w) out × (is_initial w ≡ true) × (is_hideable w ≡ true))
  pub eps : (inner out : List ℕ) → Succeeds (gives (seal_eps inner out) z) ↔ (CanSend z eps_place 6 (length inner) out × (not_eps inner ≡ false))
  pub s1_to_n1 : (ncc ngksi : ℕ) (out : List ℕ)
      → Succeeds (gives (make_s1_to_n1 ncc ngksi out) z)
      ↔ ((fault_of z ≡ 0) × (ncc ≤ 7) × (ngksi ≤ 15) × (8 ≤ length out) × (next_at z container_place < exhausted))
  pub n1_to_s1 : Succeeds (gives make_n1_to_s1 z) ↔ ((fault_of z ≡ 0) × (next_at z container_place < exhausted))
  pub verify-s1_to_n1 : (v : List ℕ) → Succeeds (gives (verify_s1_to_n1 v) z) ↔ Passes z v
  -- "Verifying uses the forward candidate"
  pub verify-n1_to_s1 : (s c : ℕ)
      → let o = gives (verify_n1_to_s1 s) z in
      (Succeeds o × Uses o c) ↔ ((fault_of z ≡ 0) × (forward_of 8 (wraps z.core) (record_at z container_place) s ≡ Some c))

-- What a seal writes is the message for the COUNT that it answers, the record's next one: "a message sealed for COUNT c" of demand 3. A container likewise.
pub record Writes (z : Context) : Type 0 where
  pub seal : (t : ℕ) (d : Direction) (k : Connection) (inner out : List ℕ)
      → let s = gives (seal5gs t d k inner out) z in
      Succeeds s
      → Uses s (next_at z (place_of d k))
      × (written s ≡ envelope z.core t s.values.count (bearer_no k) (direction_no d) inner)
      × (s.values.wrote ≡ 7 + length inner)
  pub opaque : (t : ℕ) (d : Direction) (k : Connection) (inner out : List ℕ)
      → let s = gives (seal_opaque t d k inner out) z in
      Succeeds s
      → Uses s (next_at z (place_of d k))
      × (written s ≡ envelope z.core t s.values.count (bearer_no k) (direction_no d) inner)
      × (s.values.wrote ≡ 7 + length inner)
  pub initial : (k : Connection) (w out : List ℕ)
      → let s = gives (seal_initial k w out) z in
      Succeeds s
      → Uses s (next_at z (place_of Uplink k))
      × (written s ≡ initial_envelope z.core s.values.count (bearer_no k) w)
      × (s.values.wrote ≡ 7 + outer_length w)
  pub eps : (inner out : List ℕ)
      → let s = gives (seal_eps inner out) z in
      Succeeds s → Uses s (next_at z eps_place) × (written s ≡ eps_message z.core s.values.count inner) × (s.values.wrote ≡ 6 + length inner)
  pub s1_to_n1 : (ncc ngksi : ℕ) (out : List ℕ)
      → let s = gives (make_s1_to_n1 ncc ngksi out) z in
      Succeeds s → Uses s (next_at z container_place) × (written s ≡ s1_to_n1 z.core ncc ngksi) × (s.values.wrote ≡ 8)
  -- "one octet, the last octet of the downlink 3GPP COUNT; it has no code and is given and answered as a number"
  pub n1_to_s1 : let s = gives make_n1_to_s1 z in
      Succeeds s → Uses s (next_at z container_place) × (s.values.octet ≡ s.values.count % 256) × (s.values.wrote ≡ 0)

-- when opening what an ordinary seal made ends in 8 carrying 18: an initial message under header type 1, uplink, of which "the walk of its octets fails, or
-- their container deciphered with that COUNT is no message of their type"
abbrev pub EndsIn18 : Context → ℕ → Direction → Connection → ℕ → List ℕ → Type 0
EndsIn18 x t d k c inner =
    (is_asked t (direction_no d) inner ≡ true) × (ends_in18 (λ v. payload x.core true c (bearer_no k) 0 v) inner ≡ true)

-- "If |w| > M: the second output's front is w, its number |w| .. If |w| = M: the first output's front is w, the second number is 0."
pub record HandsWhole (w : List ℕ) (o : Outcome) (then : List ℕ) (room room2 : List ℕ) : Type 0 where
  pub in-second : hides w ≡ true → (o.values.second ≡ length w) × (then ≡ over w room2)
  pub in-first : hides w ≡ false → (o.values.second ≡ 0) × (o.values.wrote ≡ length w) × (o.output ≡ over w room) × (then ≡ room2)

-- "Sealing then opening returns the inner octets": with an opener that uses that COUNT, which demand 3 says when it does.
pub record RoundTrip (z x : Context) : Type 0 where
  -- "it ends so if and only if ..; else it is a success"
  pub seal : (t : ℕ) (d : Direction) (k : Connection) (inner out room room2 : List ℕ)
      → let s = gives (seal5gs t d k inner out) z in
      let o = gives (open5gs d k (written s) room room2) x in
      Succeeds s → Uses o s.values.count
      → (o.values.header ≡ t)
      × TakenAs o s.values.count inner room
      × (EndsIn18 x t d k s.values.count inner → (o.values.number ≡ 8) × (o.values.carried ≡ 18))
      × ((EndsIn18 x t d k s.values.count inner → ⊥) → Succeeds o)
  -- the first output has the message that went out
  pub initial : (k : Connection) (w out room room2 : List ℕ)
      → let s = gives (seal_initial k w out) z in
      let o = gives (open5gs Uplink k (written s) room room2) x in
      Succeeds s → Uses o s.values.count
      → Succeeds o
      × (o.values.header ≡ 1)
      × TakenAs o s.values.count (outgoing z.core s.values.count (bearer_no k) w) room
      × HandsWhole w o (second (open5gs Uplink k (written s) room room2) x) room room2
  -- "after an opaque seal it may end in 8 with the same octets"
  pub opaque : (t : ℕ) (d : Direction) (k : Connection) (inner out room room2 : List ℕ)
      → let s = gives (seal_opaque t d k inner out) z in
      let o = gives (open5gs d k (written s) room room2) x in
      Succeeds s → Uses o s.values.count → (o.values.header ≡ t) × TakenAs o s.values.count inner room
  pub eps : (inner out room : List ℕ)
      → let s = gives (seal_eps inner out) z in
      let o = gives (open_eps (written s) room) x in
      Succeeds s → Uses o s.values.count → Succeeds o × TakenAs o s.values.count inner room

-- "An opaque seal of nothing gives 7 octets and uses a COUNT; opening them is refusal 1."
pub record SealedNothing (z x : Context) : Type 0 where
  pub gives-7 : (t : ℕ) (d : Direction) (k : Connection) (out : List ℕ)
      → let s = gives (seal_opaque t d k [] out) z in Succeeds s → (s.values.wrote ≡ 7) × Uses s (next_at z (place_of d k))
  pub refused : (t : ℕ) (d d' : Direction) (k k' : Connection) (out room room2 : List ℕ)
      → let s = gives (seal_opaque t d k [] out) z in
      Succeeds s → fault_of x ≡ 0 → (gives (open5gs d' k' (written s) room room2) x).values ≡ refusal 1

-- What is said of the octets beside.
pub record Octets (x : Context) : Type 0 where
  -- "Under ciphering code 0 no octet is changed."
  pub unchanged : x.core.ciphering ≡ 0 → (ciphered : Bool) (c b d : ℕ) (m : List ℕ) → payload x.core ciphered c b d m ≡ m
  -- "header type in the low half (the high half is ignored on opening, 0 on sealing)": sealing writes t itself
  pub high_half : (d : Direction) (k : Connection) (h t : ℕ) (m out out2 : List ℕ)
      → let k₁ = open5gs d k (0x7E ∷ (h * 16 + t) ∷ m) out out2 in
      let k₂ = open5gs d k (0x7E ∷ t ∷ m) out out2 in
      (gives k₁ x ≡ gives k₂ x) × (second k₁ x ≡ second k₂ x)
  -- "The code covers the last octet and the payload as sent, so not the header type."
  pub covers : (c b d t : ℕ) (m : List ℕ) → fits x.core c b d 2 (0x7E ∷ t ∷ m) ≡ (wraps x.core || same (take 4 m) (code_by x.core c b d (drop 4 m)))
  -- "The code is over everything from the fifth octet"; "A longer value is verified whole."
  pub whole : (v : List ℕ)
      → fits x.core s1_count container_bearer container_direction 0 v
      ≡ (wraps x.core || same (take 4 v) (code_by x.core s1_count container_bearer container_direction (drop 4 v)))

-- Containers, made by z and verified by x.
pub record Containers (z x : Context) : Type 0 where
  -- S1-to-N1 made then verified passes, and uses x's next COUNT
  pub s1_to_n1 : (ncc ngksi : ℕ) (out : List ℕ)
      → let s = gives (make_s1_to_n1 ncc ngksi out) z in
      let o = gives (verify_s1_to_n1 (written s)) x in
      Succeeds s → fault_of x ≡ 0 → next_at x container_place < exhausted → Succeeds o × Uses o (next_at x container_place)
  -- N1-to-S1: the COUNT that was used, where it is among the 256 from x's next one on
  pub n1_to_s1 : let s = gives make_n1_to_s1 z in
      let o = gives (verify_n1_to_s1 s.values.octet) x in
      Succeeds s → fault_of x ≡ 0 → Ahead container_place x s.values.count → Succeeds o × Uses o s.values.count

-- "The same container verified twice in a row passes twice, using two COUNTs, unless the first took the last COUNT (then 6; under null integrity it goes
-- round and passes)."
pub record Twice (x : Context) (v : List ℕ) : Type 0 where
  pub first_passes : let o = gives (verify_s1_to_n1 v) x in
      let o' = gives (verify_s1_to_n1 v) o.context in
      Succeeds o → length x.records ≡ 4 → next_at x container_place + 1 < exhausted
      → Uses o (next_at x container_place) × Succeeds o' × Uses o' (next_at x container_place + 1)
  pub took-last : let o = gives (verify_s1_to_n1 v) x in
      let o' = gives (verify_s1_to_n1 v) o.context in
      Succeeds o → length x.records ≡ 4 → next_at x container_place + 1 ≡ exhausted
      → Uses o (next_at x container_place) × (wraps x.core ≡ false → o'.values.number ≡ 6) × (wraps x.core ≡ true → Succeeds o' × Uses o' 0)

-- A COUNT that an open call answers is a candidate of the COUNT rule for the last octet received, and the code received is right for it.
pub record Estimates (G : Call → Context → Outcome) (x : Context) : Type 0 where
  pub opens : (d : Direction) (k : Connection) (m out out2 : List ℕ) (c : ℕ)
      → let r = record_at x (place_of d k) in
      Uses (G (open5gs d k m out out2) x) c
      → ((late_of 8 x.core.size r (get_or m 6 0) ≡ Some c) ⊎ (forward_of 8 (wraps x.core) r (get_or m 6 0) ≡ Some c))
      × (fits x.core c (bearer_no k) (direction_no d) 2 m ≡ true)
  pub opens-eps : (m out : List ℕ) (c : ℕ)
      → let r = record_at x eps_place in
      Uses (G (open_eps m out) x) c
      → ((late_of 8 x.core.size r (get_or m 5 0) ≡ Some c) ⊎ (forward_of 8 (wraps x.core) r (get_or m 5 0) ≡ Some c))
      × (fits x.core c eps_bearer eps_direction 1 m ≡ true)

pub record Demand2 : Type 0 where
  pub accepts : (z : Context) → Accepts z
  pub writes : (z : Context) → Writes z
  pub returns : (z x : Context) → SameKeys z.core x.core → RoundTrip z x
  pub nothing : (z x : Context) → SealedNothing z x
  pub octets : (x : Context) → Octets x
  pub containers : (z x : Context) → SameKeys z.core x.core → Containers z x
  pub twice : (x : Context) (v : List ℕ) → Twice x v
  pub estimates : (x : Context) → Estimates gives x
