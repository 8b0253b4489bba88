-- Demand 1 of the EPS context: every call ends with an answer, bad input gets a numbered refusal, and a refusal changes neither context nor buffer. "There is
-- no refusal 8: the inner message is not looked at."
-- That every call ends is in the contracts, which ask nothing of the input: each is an equation with the definition that `gives` or `makes` cites.
use Rattle.std.specs.Prelude.{ℕ, ◌-◌, ◌≤◌, ◌<◌, ◌≡◌, true, false, ◌⊎◌, List, [], ◌∷◌, length, drop}
use Rattle.aes.specs.Keys.{key_of}
use Rattle.algorithms.specs.Codes.{is_built}
use Rattle.count.specs.Rule.{exhausted}
use Rattle.count.specs.Run.{In}
use Rattle.nas_core.specs.Types.{ciphers}
use Rattle.nas_core.specs.Keyed.{payload, core_with}
use Rattle.nas_eps.specs.declared.Context.{Context}
use Rattle.nas_core.specs.declared.Direction.{Direction}
use Rattle.nas_core.specs.declared.Direction.TheVariants.{Downlink}
use Rattle.nas_eps.specs.Places.{place_of, fault_of, used, used_late}
use Rattle.nas_eps.specs.Leaves.{over, refusal, success}
use Rattle.nas_eps.specs.Changes.{context_with, refused_context, kept_for, resized}
use Rattle.nas_eps.specs.Octets.{bearer, type_of, is_request, identifier_of}
use Rattle.promises_eps.specs.Calls.{Call, set_window, reselect, seal_message, seal_request, open_message, create, restore, Outcome, gives, makes, lent, place_in}
use Rattle.promises_eps.specs.Words.{Succeeds, AnswersRequest}

-- the table of request 6; which open gives which of its numbers: 11 to a SERVICE REQUEST, 4 and 5 to the others
abbrev pub own_numbers : Call → List ℕ
own_numbers (set_window n) = 14 ∷ []
own_numbers (reselect i c ik ck) = 13 ∷ []
own_numbers (seal_message t d inner out) = 3 ∷ 4 ∷ 5 ∷ 6 ∷ []
own_numbers (seal_request i out) = 16 ∷ 5 ∷ 6 ∷ []
own_numbers (open_message d m out) = 1 ∷ 2 ∷ 3 ∷ 11 ∷ 4 ∷ 5 ∷ 6 ∷ 7 ∷ []

-- a context may get 13, 14 or 16 before all else
abbrev pub numbers_of : Call → List ℕ
numbers_of k = 13 ∷ 14 ∷ 16 ∷ own_numbers k

-- Of every call, on every context.
pub record Demand1 (k : Call) (x : Context) : Type 0 where
  -- "Bad input gets a numbered refusal"; 0 is a success
  pub answers : ((gives k x).values.number ≡ 0) ⊎ In (gives k x).values.number (numbers_of k)
  -- "A refusal changes nothing", and answers its number alone
  pub kept : let o = gives k x in
      (o.values.number ≡ 0 → ⊥)
      → (o.values ≡ refusal o.values.number) × (o.context ≡ x) × (o.output ≡ lent k)
  -- "A success writes the front of the output and no octet after it"
  pub behind : let o = gives k x in drop o.values.wrote o.output ≡ drop o.values.wrote (lent k)
  pub room : length (gives k x).output ≡ length (lent k)
  pub within : (gives k x).values.wrote ≤ length (lent k)
  -- "on every call but creation, restore and the reading ones the context's own 13, 14, 16 come first"
  pub fault : (fault_of x ≡ 0 → ⊥) → (gives k x).values ≡ refusal (fault_of x)

-- "Late COUNTs are not tried": a SERVICE REQUEST is used forward, as seals are
abbrev pub MayBeLate : Call → Type 0
MayBeLate (set_window n) = ⊥
MayBeLate (reselect i c ik ck) = ⊥
MayBeLate (seal_message t d inner out) = ⊥
MayBeLate (seal_request i out) = ⊥
MayBeLate (open_message d m out) = is_request m ≡ false

-- "If it uses a COUNT, it answers that COUNT": the context has the COUNT answered as used, forward or late, and nothing else changed
abbrev pub Demand1Uses : Call → Context → Type 0
Demand1Uses k x =
    let o = gives k x in
    o.values.uses ≡ true
    → (o.context ≡ used x (place_in k) o.values.count) ⊎ (MayBeLate k × (o.context ≡ used_late x (place_in k) o.values.count))

abbrev pub plain_of : Context → Direction → List ℕ → ℕ → List ℕ
plain_of x d m c = payload x.core (ciphers (type_of m)) c bearer (place_of d) (drop 6 m)

-- what an open answers and writes, by what the message is
pub record Demand1Open (x : Context) (d : Direction) (m out : List ℕ) (succeeds : Succeeds (gives (open_message d m out) x)) : Type 0 where
  pub uses : (gives (open_message d m out) x).values.uses ≡ true
  -- types 1 to 4: "COUNT, distance, octets written, header type"
  pub header : (gives (open_message d m out) x).values.header ≡ type_of m
  pub wrote : is_request m ≡ false → (gives (open_message d m out) x).values.wrote ≡ length m - 6
  pub hands : let o = gives (open_message d m out) x in is_request m ≡ false → o.output ≡ over (plain_of x d m o.values.count) out
  -- SERVICE REQUEST: "0 octets written, header type 12, and the identifier (second octet / 32) as a number; the output keeps every octet"
  pub request : let o = gives (open_message d m out) x in is_request m ≡ true → AnswersRequest o o.values.count (identifier_of m) out

-- "So 07 (plain) and 57 are 3, C7 of three octets downlink is 1, and 7E is 2", D7 is 3, and C7 of four octets downlink is 11: whatever the room, of a context
-- without fault
pub record Demand1Forms (x : Context) (faultless : fault_of x ≡ 0) : Type 0 where
  pub none : (d : Direction) (out : List ℕ) → (gives (open_message d [] out) x).values ≡ refusal 1
  pub five-gs : (d : Direction) (m out : List ℕ) → (gives (open_message d (0x7E ∷ m) out) x).values ≡ refusal 2
  pub plain : (d : Direction) (m out : List ℕ) → (gives (open_message d (0x07 ∷ m) out) x).values ≡ refusal 3
  pub control-plane : (d : Direction) (m out : List ℕ) → (gives (open_message d (0x57 ∷ m) out) x).values ≡ refusal 3
  pub other-request : (d : Direction) (m out : List ℕ) → (gives (open_message d (0xD7 ∷ m) out) x).values ≡ refusal 3
  pub short : (d : Direction) (a b : ℕ) (out : List ℕ) → (gives (open_message d (0xC7 ∷ a ∷ b ∷ []) out) x).values ≡ refusal 1
  pub long : (d : Direction) (a b c e : ℕ) (m out : List ℕ) → (gives (open_message d (0xC7 ∷ a ∷ b ∷ c ∷ e ∷ m) out) x).values ≡ refusal 1
  pub down : (a b c : ℕ) (out : List ℕ) → (gives (open_message Downlink (0xC7 ∷ a ∷ b ∷ c ∷ []) out) x).values ≡ refusal 11

-- both codes are built
abbrev pub Built : ℕ → ℕ → Type 0
Built i c = (is_built i ≡ true) × (is_built c ≡ true)

-- a call that lends no output: what it answers and hands back
abbrev pub done : Context → Outcome
done x = record { values = success; context = x; output = [] }

abbrev pub refused : ℕ → Context → Outcome
refused n x = record { values = refusal n; context = x; output = [] }

-- "creation · restore: 13 · 13, 16": refused exactly then. "Fresh: next 0, size 0. Restore: size 0. A refused creation or restore hands back codes 255 and all
-- else 0", which every call refuses with 13.
pub record Demand1Making : Type 0 where
  pub created : (i c : ℕ) (ik ck : List ℕ) → Built i c → makes (create i c ik ck) ≡ done (context_with i c ik ck 0 0)
  pub not-created : (i c : ℕ) (ik ck : List ℕ) → (Built i c → ⊥) → makes (create i c ik ck) ≡ refused 13 refused_context
  pub restored : (i c : ℕ) (ik ck : List ℕ) (up down : ℕ) → Built i c → up ≤ exhausted → down ≤ exhausted
      → makes (restore i c ik ck up down) ≡ done (context_with i c ik ck up down)
  pub not-restored : (i c : ℕ) (ik ck : List ℕ) (up down : ℕ) → (Built i c → ⊥) → makes (restore i c ik ck up down) ≡ refused 13 refused_context
  pub over-restored : (i c : ℕ) (ik ck : List ℕ) (up down : ℕ) → Built i c → (exhausted < up) ⊎ (exhausted < down)
      → makes (restore i c ik ck up down) ≡ refused 16 refused_context
  pub refuses : (k : Call) → (gives k refused_context).values ≡ refusal 13

-- "reselection · window size: 13 · 14": of a context without fault, refused exactly then
pub record Demand1Changes (x : Context) (faultless : fault_of x ≡ 0) : Type 0 where
  -- "Reselection keeps next, size and bits", but that one away from null closes every late COUNT of both records
  pub reselected : (i c : ℕ) (ik ck : List ℕ) → Built i c
      → gives (reselect i c ik ck) x ≡ done (record { core = core_with i c (key_of ik) (key_of ck) x.core.size; records = (kept_for x i).records })
  pub not-reselected : (i c : ℕ) (ik ck : List ℕ) → (Built i c → ⊥) → gives (reselect i c ik ck) x ≡ refused 13 x
  pub sized : (n : ℕ) → n ≤ 64 → gives (set_window n) x ≡ done (resized x n)
  pub not-sized : (n : ℕ) → 64 < n → gives (set_window n) x ≡ refused 14 x
