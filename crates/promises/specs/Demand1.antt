-- Demand 1: "Any bytes, any context, any buffer: every call ends with an answer. Bad input gets a numbered refusal. A refusal changes neither context nor
-- buffer, but one: a message whose code is right and whose content is refused uses its COUNT and hands over its plaintext (refusal 8)."
-- That every call ends is in the contracts, which ask nothing of the input: each is an equation with the definition that `gives` or `makes` cites.
use Rattle.std.specs.Prelude.{ℕ, ◌-◌, ◌≤◌, ◌<◌, ◌≡◌, true, ◌⊎◌, List, [], ◌∷◌, length, get_or, drop, replicate}
use Rattle.aes.specs.Keys.{key_of}
use Rattle.algorithms.specs.Codes.{is_built}
use Rattle.count.specs.Rule.{exhausted}
use Rattle.count.specs.Run.{In}
use Rattle.nas_core.specs.Keyed.{payload}
use Rattle.look.specs.Look.{look_of}
use Rattle.nas_5gs.specs.declared.Context.{Context}
use Rattle.nas_core.specs.declared.Direction.{Direction}
use Rattle.nas_5gs.specs.declared.Connection.{Connection}
use Rattle.nas_5gs.specs.Places.{direction_no, bearer_no, place_of, fault_of, used, used_late}
use Rattle.nas_5gs.specs.Leaves.{over, refusal, success}
use Rattle.nas_5gs.specs.Changes.{core_with, context_with, refused_context, kept_for, resized}
use Rattle.nas_5gs.specs.Envelope.{ciphers}
use Rattle.initial.specs.Inside.{Hidden}
use Rattle.envelope.specs.Initial.{beside_of, beside}
use Rattle.nas_5gs.specs.Open.{type_of, inside_number}
use Rattle.nas_5gs.specs.Eps.{eps_place}
use Rattle.promises.specs.Calls.{Call, set_window, reselect, seal5gs, seal_opaque, seal_initial, open5gs, seal_eps, open_eps, make_n1_to_s1, verify_n1_to_s1, make_s1_to_n1, verify_s1_to_n1, create, restore, Outcome, gives, second, makes, lent, lent_second, place_in}

-- "Order, 5GS open: under 7, 2, 3, exactly 7, 4, 5, 6 or 7, 8. EPS open: 1, 2, 4, 5, 6 or 7, 8. Seal: 9, 3, 10, 11, 4, 5, 6. .."; "Initial seal: 9, 18, 4, 5, 6"
abbrev pub own_numbers : Call → List ℕ
own_numbers (set_window n) = 14 ∷ []
own_numbers (reselect i c ik ck) = 13 ∷ []
own_numbers (seal5gs t d k inner out) = 9 ∷ 3 ∷ 10 ∷ 11 ∷ 4 ∷ 5 ∷ 6 ∷ []
own_numbers (seal_opaque t d k inner out) = 3 ∷ 4 ∷ 5 ∷ 6 ∷ []
own_numbers (seal_initial k w out) = 9 ∷ 18 ∷ 4 ∷ 5 ∷ 6 ∷ []
own_numbers (open5gs d k m out out2) = 1 ∷ 2 ∷ 3 ∷ 4 ∷ 5 ∷ 6 ∷ 7 ∷ 8 ∷ []
own_numbers (seal_eps inner out) = 12 ∷ 4 ∷ 5 ∷ 6 ∷ []
own_numbers (open_eps m out) = 1 ∷ 2 ∷ 4 ∷ 5 ∷ 6 ∷ 7 ∷ 8 ∷ []
own_numbers make_n1_to_s1 = 6 ∷ []
own_numbers (verify_n1_to_s1 s) = 6 ∷ []
own_numbers (make_s1_to_n1 ncc ngksi out) = 16 ∷ 5 ∷ 6 ∷ []
own_numbers (verify_s1_to_n1 v) = 1 ∷ 4 ∷ 15 ∷ 6 ∷ 7 ∷ []

-- a context may get 13, 14 or 16 before all else
abbrev pub numbers_of : Call → List ℕ
numbers_of k = 13 ∷ 14 ∷ 16 ∷ own_numbers k

-- Of every call, on every context.
pub record Demand1 (k : Call) (x : Context) : Type 0 where
  -- "Bad input gets a numbered refusal"; 0 is a success
  pub answers : ((gives k x).values.number ≡ 0) ⊎ In (gives k x).values.number (numbers_of k)
  -- "A refusal changes neither context nor buffer, but one"; "Other refusals answer their number alone"
  pub kept : let o = gives k x in
      (o.values.number ≡ 0 → ⊥) → (o.values.number ≡ 8 → ⊥)
      → (o.values ≡ refusal o.values.number) × (o.context ≡ x) × (o.output ≡ lent k)
  -- "A success writes the front of the output and no octet after it"
  pub behind : let o = gives k x in drop o.values.wrote o.output ≡ drop o.values.wrote (lent k)
  pub room : length (gives k x).output ≡ length (lent k)
  pub within : (gives k x).values.wrote ≤ length (lent k)
  -- ".. holds of both outputs"
  pub behind-second : let n = (gives k x).values.second in drop n (second k x) ≡ drop n (lent_second k)
  pub room-second : length (second k x) ≡ length (lent_second k)
  pub within-second : (gives k x).values.second ≤ length (lent_second k)
  -- no refusal writes to the second one: "with every 8 it is 0"
  pub untouched : let o = gives k x in (o.values.number ≡ 0 → ⊥) → (o.values.second ≡ 0) × (second k x ≡ lent_second k)
  -- "A context that holds an unbuilt code, a size above 64 or a next COUNT above 16,777,216 gets 13, 14 or 16 before all else"
  pub fault : (fault_of x ≡ 0 → ⊥) → (gives k x).values ≡ refusal (fault_of x)

-- "To use COUNT c forward makes next c + 1. Seals, forward opens and all four container calls do so. A late open uses c and leaves next as it is."
abbrev pub MayBeLate : Call → Type 0
MayBeLate (set_window n) = ⊥
MayBeLate (reselect i c ik ck) = ⊥
MayBeLate (seal5gs t d k inner out) = ⊥
MayBeLate (seal_opaque t d k inner out) = ⊥
MayBeLate (seal_initial k w out) = ⊥
MayBeLate (open5gs d k m out out2) = Unit {0}
MayBeLate (seal_eps inner out) = ⊥
MayBeLate (open_eps m out) = Unit {0}
MayBeLate make_n1_to_s1 = ⊥
MayBeLate (verify_n1_to_s1 s) = ⊥
MayBeLate (make_s1_to_n1 ncc ngksi out) = ⊥
MayBeLate (verify_s1_to_n1 v) = ⊥

-- "If it uses a COUNT, it answers that COUNT": the context has the COUNT answered as used, forward or late, and nothing else changed
abbrev pub Demand1Uses : Call → Context → Type 0
Demand1Uses k x =
    let o = gives k x in
    o.values.uses ≡ true
    → (o.context ≡ used x (place_in k) o.values.count) ⊎ (MayBeLate k × (o.context ≡ used_late x (place_in k) o.values.count))

-- "8 uses the COUNT and writes the plaintext as a success would": both leave this.
pub record HandsOver (x : Context) (p : ℕ) (plain : ℕ → List ℕ) (out : List ℕ) (o : Outcome) : Type 0 where
  pub uses : o.values.uses ≡ true
  pub context : (o.context ≡ used x p o.values.count) ⊎ (o.context ≡ used_late x p o.values.count)
  pub wrote : o.values.wrote ≡ length (plain o.values.count)
  pub output : o.output ≡ over (plain o.values.count) out

abbrev pub Opened : Outcome → Type 0
Opened o = (o.values.number ≡ 0) ⊎ (o.values.number ≡ 8)

abbrev pub plain5gs : Context → Direction → Connection → List ℕ → ℕ → List ℕ
plain5gs x d k m c = payload x.core (ciphers (type_of m)) c (bearer_no k) (direction_no d) (drop 7 m)

-- what is inside it
abbrev pub inside5gs : Context → Direction → Connection → List ℕ → ℕ → Hidden
inside5gs x d k m c = beside_of x.core (type_of m) c (bearer_no k) (direction_no d) (plain5gs x d k m c)

pub record Demand1Open (x : Context) : Type 0 where
  pub opens : (d : Direction) (k : Connection) (m out out2 : List ℕ)
      → let o = gives (open5gs d k m out out2) x in Opened o → HandsOver x (place_of d k) (plain5gs x d k m) out o
  -- "and a 5GS open the header type too; 8 answers the same and the number it carries": the look's, then 18
  pub tells : (d : Direction) (k : Connection) (m out out2 : List ℕ)
      → let o = gives (open5gs d k m out out2) x in
      Opened o
      → (o.values.header ≡ type_of m)
      × (o.values.carried ≡ inside_number (look_of (type_of m) (direction_no d) (plain5gs x d k m o.values.count)) (inside5gs x d k m o.values.count))
  pub wrote : (d : Direction) (k : Connection) (m out out2 : List ℕ)
      → let o = gives (open5gs d k m out out2) x in Opened o → o.values.wrote ≡ length m - 7
  pub carries : (d : Direction) (k : Connection) (m out out2 : List ℕ)
      → let o = gives (open5gs d k m out out2) x in o.values.number ≡ 8 → In o.values.carried (9 ∷ 10 ∷ 11 ∷ 18 ∷ [])
  -- "Then success, and q is written to the front of the second output": the container's message, deciphered with the COUNT that was used
  pub inside : (d : Direction) (k : Connection) (m out out2 : List ℕ)
      → let o = gives (open5gs d k m out out2) x in
      let q = beside (inside5gs x d k m o.values.count) in
      Opened o → (o.values.second ≡ length q) × (second (open5gs d k m out out2) x ≡ over q out2)
  pub opens-eps : (m out : List ℕ) → let o = gives (open_eps m out) x in Opened o → HandsOver x eps_place (λ c. drop 6 m) out o
  pub carries-eps : (m out : List ℕ) → let o = gives (open_eps m out) x in o.values.number ≡ 8 → o.values.carried ≡ 12

-- both codes are built
abbrev pub Built : ℕ → ℕ → Type 0
Built i c = (is_built i ≡ true) × (is_built c ≡ true)

-- a call that lends no output: what it answers and hands back
abbrev pub done : Context → Outcome
done x = record { values = success; context = x; output = [] }

abbrev pub refused : ℕ → Context → Outcome
refused n x = record { values = refusal n; context = x; output = [] }

-- "Creation ..: 13. Restore: 13, 16.": refused exactly then. "A fresh context has all next COUNTs 0 and size 0. Restore takes four next COUNTs and has size 0."
-- "A refused creation or restore hands back a context with both codes 255 and all else 0, which every call refuses with 13."
pub record Demand1Making : Type 0 where
  pub created : (i c : ℕ) (ik ck : List ℕ) → Built i c → makes (create i c ik ck) ≡ done (context_with i c ik ck (replicate 4 0))
  pub not-created : (i c : ℕ) (ik ck : List ℕ) → (Built i c → ⊥) → makes (create i c ik ck) ≡ refused 13 refused_context
  pub restored : (i c : ℕ) (ik ck next : List ℕ) → Built i c → ((p : ℕ) → p < 4 → get_or next p 0 ≤ exhausted)
      → makes (restore i c ik ck next) ≡ done (context_with i c ik ck next)
  pub not-restored : (i c : ℕ) (ik ck next : List ℕ) → (Built i c → ⊥) → makes (restore i c ik ck next) ≡ refused 13 refused_context
  pub over-restored : (i c : ℕ) (ik ck next : List ℕ) (p : ℕ) → Built i c → p < 4 → exhausted < get_or next p 0
      → makes (restore i c ik ck next) ≡ refused 16 refused_context
  pub refuses : (k : Call) → (gives k refused_context).values ≡ refusal 13

-- ".. and reselection: 13. Window: 14.": of a context without fault, refused exactly then
pub record Demand1Changes (x : Context) (faultless : fault_of x ≡ 0) : Type 0 where
  -- "Reselection takes new codes and both new keys; next COUNTs, size and bits stay", but that one away from null closes every late COUNT
  pub reselected : (i c : ℕ) (ik ck : List ℕ) → Built i c
      → gives (reselect i c ik ck) x ≡ done (record { core = core_with i c (key_of ik) (key_of ck) x.core.size; records = (kept_for x i).records })
  pub not-reselected : (i c : ℕ) (ik ck : List ℕ) → (Built i c → ⊥) → gives (reselect i c ik ck) x ≡ refused 13 x
  pub sized : (n : ℕ) → n ≤ 64 → gives (set_window n) x ≡ done (resized x n)
  pub not-sized : (n : ℕ) → 64 < n → gives (set_window n) x ≡ refused 14 x
