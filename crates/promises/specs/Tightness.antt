-- "How tight the statements are": no second answer fits; and for wrong contexts that document 01 names, that they do not keep the promises. A wrong context is
-- any G from calls and contexts to outcomes, with what is wrong about it; `Keeps` is demand 3, `Estimates` demand 2's estimate.
use Rattle.std.specs.Prelude.{ℕ, ⊤, ◌%◌, ◌≤◌, ◌≡◌, true, false, List, [], ◌∷◌, get_or, Result}
use Rattle.aes.specs.Nas.{nea2_of}
use Rattle.nas_core.specs.Verify.{fits}
use Rattle.nas_5gs.specs.declared.Context.{Context}
use Rattle.nas_core.specs.declared.Direction.{Direction}
use Rattle.nas_core.specs.declared.Direction.TheVariants.{Uplink}
use Rattle.nas_5gs.specs.declared.Connection.{Connection}
use Rattle.nas_5gs.specs.declared.Connection.TheVariants.{ThreeGpp}
use Rattle.nas_5gs.specs.Places.{direction_no, bearer_no, place_of, next_at}
use Rattle.refusals.specs.declared.Refusal.{Refusal}
use Rattle.nas_core.specs.declared.Spent.{Spent}
use Rattle.nas_core.specs.declared.Received.{Received}
use Rattle.nas_5gs.specs.declared.Opened.{Opened}
use Rattle.nas_5gs.specs.declared.OpenError.{OpenError}
use Rattle.nas_5gs.specs.declared.EpsReceived.{EpsReceived}
use Rattle.nas_5gs.specs.declared.MadeOctet.{MadeOctet}
use Rattle.nas_5gs.specs.declared.Reached.{Reached}
use Rattle.nas_core.specs.ChangeAnswer.{told_change}
use Rattle.nas_core.specs.UseAnswer.{told_use}
use Rattle.nas_5gs.specs.OpenAnswer.{told_open}
use Rattle.nas_5gs.specs.EpsOpenAnswer.{told_eps_open}
use Rattle.nas_5gs.specs.OctetAnswer.{told_octet}
use Rattle.nas_5gs.specs.VerifyAnswer.{told_verify}
use Rattle.nas_5gs.specs.Leaves.{Leaves, LeavesTwo, Values, change_values, use_values, open_values, eps_open_values, octet_values, verify_values}
use Rattle.nas_5gs.specs.Envelope.{envelope}
use Rattle.promises.specs.Calls.{Call, set_window, seal5gs, seal_opaque, seal_initial, open5gs, seal_eps, open_eps, make_n1_to_s1, verify_n1_to_s1, make_s1_to_n1, verify_s1_to_n1, reselect, Making, Outcome, outcome, first_of, second_of, gives, second, makes, context_after}
use Rattle.promises.specs.Words.{Uses}
use Rattle.promises.specs.Demand2.{Estimates}
use Rattle.promises.specs.Demand3.{Fresh, StillOpen, Keeps}

-- "what a public function says, refusals too, determines the answer, the context and each lent buffer; show that no second answer fits".
-- The answer of each call, as its function gives it, with document 01's values of it:
abbrev pub AnswerOf : Call → Type 0
AnswerOf (set_window n) = Result ⊤ Refusal
AnswerOf (seal5gs t d k inner out) = Result Spent Refusal
AnswerOf (seal_opaque t d k inner out) = Result Spent Refusal
AnswerOf (seal_initial k w out) = Result Spent Refusal
AnswerOf (open5gs d k m out out2) = Result Opened (OpenError Received)
AnswerOf (seal_eps inner out) = Result Spent Refusal
AnswerOf (open_eps m out) = Result EpsReceived (OpenError EpsReceived)
AnswerOf make_n1_to_s1 = Result MadeOctet Refusal
AnswerOf (verify_n1_to_s1 s) = Result Reached Refusal
AnswerOf (make_s1_to_n1 ncc ngksi out) = Result Spent Refusal
AnswerOf (verify_s1_to_n1 v) = Result Spent Refusal
AnswerOf (reselect i c ik ck) = Result ⊤ Refusal

abbrev pub change_told : Result ⊤ Refusal → Values
change_told a = change_values (told_change a)

abbrev pub use_told : Result Spent Refusal → Values
use_told a = use_values (told_use a)

abbrev pub values_of : (k : Call) → AnswerOf k → Values
values_of (set_window n) = change_told
values_of (seal5gs t d k inner out) = use_told
values_of (seal_opaque t d k inner out) = use_told
values_of (seal_initial k w out) = use_told
values_of (open5gs d k m out out2) = λ a. open_values (told_open a)
values_of (seal_eps inner out) = use_told
values_of (open_eps m out) = λ a. eps_open_values (told_eps_open a)
values_of make_n1_to_s1 = λ a. octet_values (told_octet a)
values_of (verify_n1_to_s1 s) = λ a. verify_values (told_verify a)
values_of (make_s1_to_n1 ncc ngksi out) = use_told
values_of (verify_s1_to_n1 v) = use_told
values_of (reselect i c ik ck) = change_told

-- An implementation leaves an answer, a context and an output that meet the contract of the call (in crate covers, where each function is called).
abbrev pub Meets : (k : Call) → Context → Leaves (AnswerOf k) → Type 0
Meets k x l = outcome (values_of k) l ≡ gives k x

-- and a 5GS open, both outputs
abbrev pub MeetsBoth : Direction → Connection → List ℕ → List ℕ → List ℕ → Context → LeavesTwo (Result Opened (OpenError Received)) → Type 0
MeetsBoth d k m out out2 x l =
    Meets (open5gs d k m out out2) x (first_of l) × (second_of l ≡ second (open5gs d k m out out2) x)

abbrev pub MeetsMaking : Making → Leaves (Result ⊤ Refusal) → Type 0
MeetsMaking m l = outcome change_told l ≡ makes m

pub record OnlyOne : Type 0 where
  pub calls : (k : Call) (x : Context) (l l' : Leaves (AnswerOf k)) → Meets k x l → Meets k x l' → l ≡ l'
  pub both : (d : Direction) (k : Connection) (m out out2 : List ℕ) (x : Context) (l l' : LeavesTwo (Result Opened (OpenError Received)))
      → MeetsBoth d k m out out2 x l → MeetsBoth d k m out out2 x l' → l ≡ l'
  pub makings : (m : Making) (l l' : Leaves (Result ⊤ Refusal)) → MeetsMaking m l → MeetsMaking m l' → l ≡ l'

-- what a 5GS open call of G answers
abbrev Opens5gs : (Outcome → Context → Direction → Connection → List ℕ → Type 0) → (Call → Context → Outcome) → Type 0
Opens5gs P G = (x : Context) (d : Direction) (k : Connection) (m out out2 : List ℕ) → P (G (open5gs d k m out out2) x) x d k m

-- "a context that refuses everything (fails the acceptance half of demand 3)"
abbrev pub RefusesAll : (Call → Context → Outcome) → Type 0
RefusesAll = Opens5gs (λ o x d k m. o.values.uses ≡ false)

-- "one that opens all as next (fails demand 2's estimate)": once, for a message with another last octet, is enough
pub record OpensAsNext (G : Call → Context → Outcome) : Type 0 where
  pub x : Context
  pub d : Direction
  pub k : Connection
  pub m : List ℕ
  pub out : List ℕ
  pub out2 : List ℕ
  pub uses : Uses (G (open5gs d k m out out2) x) (next_at x (place_of d k))
  pub other : get_or m 6 0 % 256 ≡ next_at x (place_of d k) % 256 → ⊥

-- "one that leaves the record still (COUNTs repeat)"
abbrev pub LeavesStill : (Call → Context → Outcome) → Type 0
LeavesStill = Opens5gs (λ o x d k m. o.context ≡ x)

-- "one that reports an invented COUNT (the code must fit it)": once is enough
pub record Invents (G : Call → Context → Outcome) : Type 0 where
  pub x : Context
  pub d : Direction
  pub k : Connection
  pub m : List ℕ
  pub out : List ℕ
  pub out2 : List ℕ
  pub c : ℕ
  pub uses : Uses (G (open5gs d k m out out2) x) c
  pub unfit : fits x.core c (bearer_no k) (direction_no d) 2 m ≡ false

-- "one that spends all late COUNTs on the first message (P6)": next COUNT and size are those of P6, "size 8, fresh, COUNT 5 used: 0 to 4 open late, next 6"
pub record AsInP6 (G : Call → Context → Outcome) : Type 0 where
  pub sized : (x : Context) → Fresh x → let y = (G (set_window 8) x).context in (next_at y 0 ≡ 0) × (y.core.size ≡ 8)
  pub moved : (x : Context) → Fresh x → (m out out2 : List ℕ)
      → let o = G (open5gs Uplink ThreeGpp m out out2) (G (set_window 8) x).context in
      o.values.uses ≡ true → o.values.count ≡ 5 → (next_at o.context 0 ≡ 6) × (o.context.core.size ≡ 8)

-- the two calls of P6, the last one first: a message of one octet for COUNT 5 opened, after size 8 was set
abbrev pub p6_calls : Context → List Call
p6_calls x = open5gs Uplink ThreeGpp (envelope x.core 1 5 1 0 (0 ∷ [])) (0 ∷ []) (0 ∷ []) ∷ set_window 8 ∷ []

-- and it opens none of them late, right after the two calls
abbrev pub NeverLate : (Call → Context → Outcome) → Type 0
NeverLate G = (x : Context) → Fresh x → (m out out2 : List ℕ)
    → let y = context_after G x (p6_calls x) in
    let o = G (open5gs Uplink ThreeGpp m out out2) y in
    o.values.uses ≡ true → next_at y 0 ≤ o.values.count

pub record Tightness : Type 0 where
  -- what is said of late COUNTs is said of something: P6 over the calls
  pub p6-late : (x : Context) → Fresh x
      → (next_at (context_after gives x (p6_calls x)) 0 ≡ 6) × ((c : ℕ) → c ≤ 4 → StillOpen gives 0 x (p6_calls x) c)
  pub refuses-all : (G : Call → Context → Outcome) → RefusesAll G → Keeps G → ⊥
  pub opens-as-next : (G : Call → Context → Outcome) → OpensAsNext G → ((x : Context) → Estimates G x) → ⊥
  pub leaves-still : (G : Call → Context → Outcome) → LeavesStill G → Keeps G → ⊥
  -- the calls themselves are as in P6
  pub p6 : AsInP6 gives
  pub never-late : (G : Call → Context → Outcome) → AsInP6 G → NeverLate G → Keeps G → ⊥
  pub invents : (G : Call → Context → Outcome) → Invents G → ((x : Context) → Estimates G x) → ⊥
  -- "A cipher that copies its input passes the round trip alone, so the round trip is stated over NEA2's definition"
  pub copies : ((key : List ℕ) (c b d : ℕ) (m : List ℕ) → nea2_of key c b d m ≡ m) → ⊥
