-- Demand 3 of a journal (document 02, item 10: "Restore records begin demand 3 afresh from the restored COUNTs"). Its calls in the promises' words, cut at its
-- creations and restores: of each part what the demand says, and that the answers that are printed are those that the parts' calls give.
use Rattle.std.specs.Prelude.{ℕ, ◌/◌, ◌%◌, ◌+◌, ◌≡◌, true, false, List, [], ◌∷◌, ◌++◌, map, reverse}
use Rattle.nas_5gs.specs.declared.Context.{Context}
use Rattle.nas_5gs.specs.Leaves.{LeavesTwo, leaves_two, Values, refusal, success}
use Rattle.hex_parse.specs.Parsed.{no_key}
use Rattle.hex_perform.specs.declared.Answer.{Answer}
use Rattle.hex_perform.specs.declared.Answer.TheVariants.{Bad, Done, Shown, Refused, Used, Made, Opened, Content, EpsContent, Received, OpenedOn, ContentOn}
use Rattle.hex_perform.specs.Perform.{direction_of, connection_of}
use Rattle.journal.specs.Items.{Item, call, skipped, items}
use Rattle.journal_calls.specs.declared.Call.{Call as Entry}
use Rattle.journal_calls.specs.declared.Call.TheVariants as journal
use Rattle.journal_calls.specs.Fields.{key_at, counts_in}
use Rattle.journal_calls.specs.Calls.{call_of, rest_of}
use Rattle.promises.specs.Words.{Succeeds}
use Rattle.promises.specs.Calls.{Call, set_window, reselect, seal5gs, seal_opaque, seal_initial, open5gs, seal_eps, open_eps, make_n1_to_s1, verify_n1_to_s1, make_s1_to_n1, verify_s1_to_n1, Making, create, restore, Outcome, gives, second, makes, context_after, counts_used}
use Rattle.promises.specs.Demand3.{NeverToNull, Demand3}
use Rattle.journal_replay.specs.Replay.{lent, replayed}

-- a call that makes a context, or one on the context that there is
pub data Step : Type 0 where
  making : Making → Step
  calling : Call → Step

-- the call of a journal with what stands behind the front of its bytes, outputs of so many a5; what is no call is none
abbrev pub steps_for : Entry → List ℕ → List Step
steps_for journal.Unknown r = []
steps_for (journal.New i c) r = making (create i c (key_at r 0) (key_at r 16)) ∷ []
steps_for (journal.Restore i c) r = making (restore i c (key_at r 0) (key_at r 16) (counts_in r)) ∷ []
steps_for (journal.Reselect i c) r = calling (reselect i c (key_at r 0) (key_at r 16)) ∷ []
steps_for (journal.Window w) r = calling (set_window w) ∷ []
steps_for (journal.Seal t p n) r = calling (seal5gs t (direction_of (p % 2)) (connection_of (p / 2 + 1)) r (lent n)) ∷ []
steps_for (journal.Opaque t p n) r = calling (seal_opaque t (direction_of (p % 2)) (connection_of (p / 2 + 1)) r (lent n)) ∷ []
steps_for (journal.Open p n m) r = calling (open5gs (direction_of (p % 2)) (connection_of (p / 2 + 1)) r (lent n) (lent m)) ∷ []
steps_for (journal.EpsSeal n) r = calling (seal_eps r (lent n)) ∷ []
steps_for (journal.EpsOpen n) r = calling (open_eps r (lent n)) ∷ []
steps_for journal.N1ToS1 r = calling make_n1_to_s1 ∷ []
steps_for (journal.VerifyN1ToS1 o) r = calling (verify_n1_to_s1 o) ∷ []
steps_for (journal.S1ToN1 p k n) r = calling (make_s1_to_n1 p k (lent n)) ∷ []
steps_for journal.VerifyS1ToN1 r = calling (verify_s1_to_n1 r) ∷ []
steps_for (journal.Initial k n) r = calling (seal_initial (connection_of (k % 2 + 1)) r (lent n)) ∷ []

abbrev pub steps_in : List Item → List Step
steps_in [] = []
steps_in (call kind bytes ∷ is) = steps_for (call_of kind bytes) (rest_of kind bytes) ++ steps_in is
steps_in (skipped n ∷ is) = steps_in is

-- Calls from a creation or restore on, up to the next one: the last one first.
pub record Part : Type 0 where
  pub made : Making
  pub calls : List Call

-- the context that it begins with
abbrev pub beginning : Part → Context
beginning P = (makes P.made).context

-- one step more
abbrev pub extended : Step → List Part → List Part
extended (making m) ps = record { made = m; calls = [] } ∷ ps
extended (calling k) [] = []
extended (calling k) (P ∷ ps) = record { made = P.made; calls = k ∷ P.calls } ∷ ps

-- at the start the context is the one that a refused creation hands back
abbrev pub start : Making
start = create 255 255 no_key no_key

-- the parts of steps, both with the last one first
abbrev pub parts : List Step → List Part
parts [] = record { made = start; calls = [] } ∷ []
parts (s ∷ ss) = extended s (parts ss)

-- a journal cut at its creations and restores
unfoldable pub parts_of : List ℕ → List Part
parts_of l = parts (reverse (steps_in (items l)))

-- what calls give from x on, with what they leave in the second output: each on the context that the last one gave back
abbrev pub given : Context → List Call → List (Outcome × List ℕ)
given x [] = []
given x (k ∷ ks) = (gives k (context_after gives x ks), second k (context_after gives x ks)) ∷ given x ks

abbrev pub given_in : List Part → List (Outcome × List ℕ)
given_in [] = []
given_in (P ∷ ps) = given (beginning P) P.calls ++ ((makes P.made, []) ∷ given_in ps)

-- an answer that is printed, in the promises' values; `bad`, `show` and what `across` answers are of no call of a journal
abbrev pub values_of : Answer → List Values
values_of Bad = []
values_of Shown = []
values_of Done = success ∷ []
values_of (Refused n) = refusal n ∷ []
values_of (Used c w) = record { refused = false; number = 0; uses = true; count = c; distance = 0; wrote = w; second = 0; header = 0; carried = 0; octet = 0 } ∷ []
values_of (Made c o) = record { refused = false; number = 0; uses = true; count = c; distance = 0; wrote = 0; second = 0; header = 0; carried = 0; octet = o } ∷ []
values_of (Opened c d w t s) = record { refused = false; number = 0; uses = true; count = c; distance = d; wrote = w; second = s; header = t; carried = 0; octet = 0 } ∷ []
values_of (Content c d w t n) = record { refused = true; number = 8; uses = true; count = c; distance = d; wrote = w; second = 0; header = t; carried = n; octet = 0 } ∷ []
values_of (EpsContent c d w n) = record { refused = true; number = 8; uses = true; count = c; distance = d; wrote = w; second = 0; header = 0; carried = n; octet = 0 } ∷ []
values_of (Received c d w) = record { refused = false; number = 0; uses = true; count = c; distance = d; wrote = w; second = 0; header = 0; carried = 0; octet = 0 } ∷ []
values_of (OpenedOn k c d w t s) = []
values_of (ContentOn k c d w t n) = []

abbrev pub told : LeavesTwo Answer → List (Outcome × List ℕ)
told (leaves_two a x out out2) = map (λ v. (record { values = v; context = x; output = out }, out2)) (values_of a)

abbrev pub told_in : List (LeavesTwo Answer) → List (Outcome × List ℕ)
told_in [] = []
told_in (a ∷ as') = told a ++ told_in as'

abbrev pub integrity_in : Making → ℕ
integrity_in (create i c ik ck) = i
integrity_in (restore i c ik ck next) = i

pub record OfJournal : Type 0 where
  -- the answers to a journal's calls, the last one first, and before them that of the creation which it starts from, are those of its parts
  pub answers : (l : List ℕ)
      → reverse ((makes start, []) ∷ told_in (replayed (items l) (makes start).context)) ≡ given_in (parts_of l)
  -- "demand 3 holds of each part": of any that begins with an accepted creation or restore with a code other than 0, over its calls, reselections as
  -- demand 3 has them
  pub demand3 : (P : Part) → Succeeds (makes P.made) → (integrity_in P.made ≡ 0 → ⊥) → NeverToNull gives (beginning P) P.calls
      → Demand3 gives (beginning P) P.calls
  -- "A refused one hands back the refused context: no COUNT is used until the next accepted one."
  pub unused : (P : Part) → (Succeeds (makes P.made) → ⊥) → (p : ℕ) → counts_used gives p (beginning P) P.calls ≡ []
