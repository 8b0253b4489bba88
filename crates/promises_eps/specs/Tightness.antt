-- "No second answer fits", and wrong contexts that request 6 names: any G from calls and contexts to outcomes, with what is wrong about it.
use Rattle.std.specs.Prelude.{ℕ, ⊤, ◌≤◌, ◌<◌, ◌≡◌, true, List, Result}
use Rattle.count.specs.Rule.{exhausted}
use Rattle.nas_eps.specs.declared.Context.{Context}
use Rattle.nas_core.specs.declared.Direction.TheVariants.{Uplink}
use Rattle.refusals.specs.declared.Refusal.{Refusal}
use Rattle.nas_core.specs.declared.Spent.{Spent}
use Rattle.nas_core.specs.ChangeAnswer.{ChangeAnswer, told_change}
use Rattle.nas_core.specs.UseAnswer.{UseAnswer, told_use}
use Rattle.nas_eps.specs.declared.Opened.{Opened as Taken}
use Rattle.nas_eps.specs.OpenAnswer.{OpenAnswer, told_open}
use Rattle.nas_eps.specs.Places.{uplink}
use Rattle.nas_eps.specs.Leaves.{Leaves, leaves, Values, change_values, use_values, open_values}
use Rattle.nas_eps.specs.Changes.{new_of, restore_of, reselect_of, window_of}
use Rattle.nas_eps.specs.Octets.{is_request, service_request}
use Rattle.nas_eps.specs.Seal.{seal_of, service_request_of}
use Rattle.nas_eps.specs.Open.{open_of}
use Rattle.promises_eps.specs.Calls.{Call, set_window, reselect, seal_message, seal_request, open_message, Making, create, restore, Outcome, outcome, gives, makes, context_after}
use Rattle.promises_eps.specs.Words.{Ahead, AnswersRequest}
use Rattle.promises_eps.specs.Demand3.{Begins, NeverToNull, Keeps}

-- The answer of each call, as its function gives it; document 01's words for it, with their values; and what the call leaves, word by word as in its contract.
abbrev pub AnswerOf : Call → Type 0
AnswerOf (set_window n) = Result ⊤ Refusal
AnswerOf (reselect i c ik ck) = Result ⊤ Refusal
AnswerOf (seal_message t d inner out) = Result Spent Refusal
AnswerOf (seal_request i out) = Result Spent Refusal
AnswerOf (open_message d m out) = Result Taken Refusal

abbrev pub WordsOf : Call → Type 0
WordsOf (set_window n) = ChangeAnswer
WordsOf (reselect i c ik ck) = ChangeAnswer
WordsOf (seal_message t d inner out) = UseAnswer
WordsOf (seal_request i out) = UseAnswer
WordsOf (open_message d m out) = OpenAnswer

abbrev pub told_of : (k : Call) → AnswerOf k → WordsOf k
told_of (set_window n) = told_change
told_of (reselect i c ik ck) = told_change
told_of (seal_message t d inner out) = told_use
told_of (seal_request i out) = told_use
told_of (open_message d m out) = told_open

abbrev pub values_of : (k : Call) → WordsOf k → Values
values_of (set_window n) = change_values
values_of (reselect i c ik ck) = change_values
values_of (seal_message t d inner out) = use_values
values_of (seal_request i out) = use_values
values_of (open_message d m out) = open_values

abbrev pub left_of : (k : Call) → Context → Leaves (WordsOf k)
left_of (set_window n) x = window_of x n
left_of (reselect i c ik ck) x = reselect_of x i c ik ck
left_of (seal_message t d inner out) x = seal_of x t d inner out
left_of (seal_request i out) x = service_request_of x i out
left_of (open_message d m out) x = open_of x d m out

abbrev pub made_of : Making → Leaves ChangeAnswer
made_of (create i c ik ck) = new_of i c ik ck
made_of (restore i c ik ck up down) = restore_of i c ik ck up down

-- An implementation leaves an answer, a context and an output that meet the contract of the call.
abbrev pub in_words : {A W : Type 0} → (A → W) → Leaves A → Leaves W
in_words told (leaves a x out) = leaves (told a) x out

abbrev pub Meets : (k : Call) → Context → Leaves (AnswerOf k) → Type 0
Meets k x l = in_words (told_of k) l ≡ left_of k x

abbrev pub MeetsMaking : Making → Leaves (Result ⊤ Refusal) → Type 0
MeetsMaking m l = in_words told_change l ≡ made_of m

pub record OnlyOne : Type 0 where
  pub calls : (k : Call) (x : Context) (l l' : Leaves (AnswerOf k)) → Meets k x l → Meets k x l' → l ≡ l'
  pub makings : (m : Making) (l l' : Leaves (Result ⊤ Refusal)) → MeetsMaking m l → MeetsMaking m l' → l ≡ l'
  -- and what the promises speak of is its values
  pub values : (k : Call) (x : Context) → outcome (values_of k) (left_of k x) ≡ gives k x
  pub made-values : (m : Making) → outcome change_values (made_of m) ≡ makes m

-- a SERVICE REQUEST for c with identifier i, opened by G after some calls that demand 3 speaks of
pub record Opened (G : Call → Context → Outcome) : Type 0 where
  pub x : Context
  pub begins : Begins x
  pub ks : List Call
  pub never : NeverToNull G x ks
  pub i : ℕ
  pub c : ℕ
  pub out : List ℕ
  pub named : i ≤ 7
  pub count : c < exhausted

module _ {G : Call → Context → Outcome} (q : Opened G) where
  abbrev pub here : Context
  here = context_after G q.x q.ks

  abbrev pub answer : Outcome
  answer = G (open_message Uplink (service_request here.core q.i q.c) q.out) here

-- "reach 31", "an invented identifier", "5 for a SERVICE REQUEST with no output": in reach, and once not taken as it was sealed
pub record Misses (G : Call → Context → Outcome) : Type 0 where
  pub request : Opened G
  pub ahead : Ahead 32 uplink (here request) request.c
  pub missed : AnswersRequest (answer request) request.c request.i request.out → ⊥

-- "reach 33 or 256", "SERVICE REQUEST opened late": once taken as its COUNT out of reach
pub record Beyond (G : Call → Context → Outcome) : Type 0 where
  pub request : Opened G
  pub beyond : Ahead 32 uplink (here request) request.c → ⊥
  pub taken : AnswersRequest (answer request) request.c request.i request.out

-- "the record left still by SERVICE REQUEST"
abbrev pub LeavesStill : (Call → Context → Outcome) → Type 0
LeavesStill G = (x : Context) (m out : List ℕ) → is_request m ≡ true → (G (open_message Uplink m out) x).context ≡ x

pub record Tightness : Type 0 where
  pub misses : (G : Call → Context → Outcome) → Misses G → Keeps G → ⊥
  pub beyond : (G : Call → Context → Outcome) → Beyond G → Keeps G → ⊥
  pub leaves-still : (G : Call → Context → Outcome) → LeavesStill G → Keeps G → ⊥
