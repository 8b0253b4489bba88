-- A journal's answers are those of its parts, and each part keeps demand 3.
use Prim.Native.Nat.{ℕ, ◌+◌, ◌/◌, ◌%◌}
use mathlib.Core.Path.{◌≡◌, refl, ap, sym, ◌∙◌}
use mathlib.Core.Bool.{Bool, true, false, cond}
use mathlib.Core.List.{List, [], ◌∷◌, ◌++◌, reverse_aux, reverse}
use native.Mathlib.Omega.{arith}
use lib.Dec.{eqb}
use lib.ListN.{length, get_or, replicate}
use borrow.Author.Tests.{eqb-false}
use Rattle.refusals.specs.Order.{◌when◌, first}
use Rattle.nas_core.specs.Refusals.{unbuilt}
use Rattle.nas_5gs.specs.Places.{four, any_over}
use Rattle.nas_5gs.specs.declared.Context.{Context}
use Rattle.nas_core.specs.ChangeAnswer.{ChangeAnswer}
use Rattle.nas_core.specs.ChangeAnswer as change
use Rattle.nas_core.specs.UseAnswer as use'
use Rattle.nas_5gs.specs.OctetAnswer as octet
use Rattle.nas_5gs.specs.OpenAnswer as open'
use Rattle.nas_5gs.specs.EpsOpenAnswer as eps
use Rattle.nas_5gs.specs.VerifyAnswer as verify
use Rattle.nas_5gs.specs.Leaves.{Leaves, leaves, LeavesTwo, leaves_two, Values, refusal, change_values, use_values, open_values, eps_open_values, octet_values, verify_values}
use Rattle.nas_5gs.specs.Changes.{context_with, refused_context, new_of, restore_of, reselect_of, window_of}
use Rattle.nas_5gs.specs.Seal.{seal_of, seal_opaque_of}
use Rattle.nas_5gs.specs.Initial.{initial_of}
use Rattle.nas_5gs.specs.Open.{open_of}
use Rattle.nas_5gs.specs.Eps.{seal_eps_of, open_eps_of}
use Rattle.nas_5gs.specs.Containers.{n1_to_s1_of, verify_n1_to_s1_of, s1_to_n1_of, verify_s1_to_n1_of}
use Rattle.hex_perform.specs.declared.Answer.{Answer}
use Rattle.hex_perform.specs.Answers.{change_answer, use_answer, octet_answer, open_answer, eps_answer, verify_answer, writing, writing_two, beside, keeping}
use Rattle.hex_perform.specs.Perform.{direction_of, connection_of, call_of, perform_of}
use Rattle.journal.specs.Items.{Item, call, skipped, items}
use Rattle.journal_calls.specs.declared.Call.{Call as Entry}
use Rattle.journal_calls.specs.declared.Call.TheVariants as journal
use Rattle.journal_calls.specs.Fields.{key_at, counts_in}
use Rattle.journal_calls.specs.Calls.{rest_of, call_of as entry_at}
use Rattle.journal_lines.specs.Lines.{line_for, line_of}
use Rattle.promises.specs.Words.{Succeeds}
use Rattle.promises.specs.Calls.{Call, make_n1_to_s1, verify_n1_to_s1, verify_s1_to_n1, set_window, reselect, Making, create, restore, Outcome, outcome, used_by, first_of, second_of, gives, second, makes, place_in, context_after, counts_used}
use Rattle.promises.specs.Demand3.{Begins, fresh, restored}
use Rattle.promises.proofs.Promises.{promises}
use Rattle.journal_replay.specs.Replay.{lent, performed, given as handed, answered, lines_in, replayed}
use Rattle.journal_replay.specs.Parts.{Step, making, calling, steps_for, steps_in, Part, beginning, extended, start, parts, parts_of, given_in, values_of, told, told_in, integrity_in, OfJournal}

-- what a step gives, and what steps do, in order
abbrev does : Step → Context → Outcome × List ℕ
does (making m) x = (makes m, [])
does (calling k) x = (gives k x, second k x)

abbrev run : List Step → Context → List (Outcome × List ℕ)
run [] x = []
run (s ∷ ss) x = does s x ∷ run ss (does s x).0.context

abbrev after : List Step → Context → Context
after [] x = x
after (s ∷ ss) x = after ss (does s x).0.context

run-append : (ss ts : List Step) (x : Context) → run ss x ++ run ts (after ss x) ≡ run (ss ++ ts) x
run-append [] ts x = refl
run-append (s ∷ ss) ts x = ap (λ os. does s x ∷ os) (run-append ss ts (does s x).0.context)

-- what a performed line leaves is what its steps do
pub record Same (L : LeavesTwo Answer) (ss : List Step) (x : Context) : Type 0 where
  pub tells : told L ≡ run ss x
  pub hands : handed L ≡ after ss x

-- an answer printed has the values that the promises give it
abbrev Alike : {A : Type 0} → (A → Answer) → (A → Values) → Type 0
Alike {A} f v = (a : A) → values_of (f a) ≡ v a ∷ []

change-alike : Alike change_answer change_values
change-alike (change.Refused n) = refl
change-alike change.Done = refl

use-alike : Alike use_answer use_values
use-alike (use'.Refused n) = refl
use-alike (use'.Used c w) = refl

octet-alike : Alike octet_answer octet_values
octet-alike (octet.Refused n) = refl
octet-alike (octet.Made c o) = refl

open-alike : Alike open_answer open_values
open-alike (open'.Refused n) = refl
open-alike (open'.Accepted c d w t s) = refl
open-alike (open'.Content c d w t n) = refl

eps-alike : Alike eps_answer eps_open_values
eps-alike (eps.Refused n) = refl
eps-alike (eps.Accepted c d w) = refl
eps-alike (eps.Content c d w n) = refl

verify-alike : Alike verify_answer verify_values
verify-alike (verify.Refused n) = refl
verify-alike (verify.Verified c d) = refl

-- a call that lends one output, none, two
module _ {A : Type 0} (f : A → Answer) (v : A → Values) (alike : Alike f v) where
  one : (L : Leaves A) → (told (beside [] (writing f L)) ≡ (outcome v L, []) ∷ []) × (handed (beside [] (writing f L)) ≡ (outcome v L).context)
  one (leaves a x o) = (rw (alike a) refl, refl)

  none : (L : Leaves A) → length (outcome v L).output ≡ 0
      → (told (keeping [] [] (writing f L)) ≡ (outcome v L, []) ∷ []) × (handed (keeping [] [] (writing f L)) ≡ (outcome v L).context)
  none (leaves a x []) e = (rw (alike a) refl, refl)
  none (leaves a x (b ∷ o)) e = absurd (omega arith)

  two : (L : LeavesTwo A) → (told (writing_two f L) ≡ (outcome v (first_of L), second_of L) ∷ []) × (handed (writing_two f L) ≡ (outcome v (first_of L)).context)
  two (leaves_two a x o s) = (rw (alike a) refl, refl)

-- creation and restore: the number that refuses them, and what they make
abbrev refusal-of : Making → ℕ
refusal-of (create i c ik ck) = first (13 when unbuilt i c ∷ [])
refusal-of (restore i c ik ck next) = first (13 when unbuilt i c ∷ 16 when any_over (four (λ p. get_or next p 0)) ∷ [])

abbrev made_of : Making → Context
made_of (create i c ik ck) = context_with i c ik ck (replicate 4 0)
made_of (restore i c ik ck next) = context_with i c ik ck next

-- what they leave, by the test of that number
abbrev left : ℕ → Context → Bool → Leaves ChangeAnswer
left n z t = cond t (leaves change.Done z []) (leaves (change.Refused n) refused_context [])

short : (n : ℕ) (z : Context) (t : Bool) → length (outcome change_values (left n z t)).output ≡ 0
short n z true = refl
short n z false = refl

made-short : (m : Making) → length (makes m).output ≡ 0
unfolding new_of restore_of
made-short (create i c ik ck) = short (refusal-of (create i c ik ck)) (made_of (create i c ik ck)) (eqb (refusal-of (create i c ik ck)) 0)
made-short (restore i c ik ck next) =
    let m = restore i c ik ck next in
    short (refusal-of m) (made_of m) (eqb (refusal-of m) 0)

-- each call of a journal
same : (e : Entry) (r : List ℕ) (x : Context) → Same (performed (line_for e r) r x) (steps_for e r) x
unfolding performed perform_of call_of
same journal.Unknown r x = record { tells = refl; hands = refl }
same (journal.New i c) r x =
    let n = none change_answer change_values change-alike (new_of i c (key_at r 0) (key_at r 16)) (made-short (create i c (key_at r 0) (key_at r 16))) in
    record { tells = n.0; hands = n.1 }
same (journal.Restore i c) r x =
    let n = none change_answer change_values change-alike (restore_of i c (key_at r 0) (key_at r 16) (counts_in r)) (made-short (restore i c (key_at r 0) (key_at r 16) (counts_in r))) in
    record { tells = n.0; hands = n.1 }
same (journal.Reselect i c) r x =
    let n = none change_answer change_values change-alike (reselect_of x i c (key_at r 0) (key_at r 16)) (promises.demand1 (reselect i c (key_at r 0) (key_at r 16)) x).room in
    record { tells = n.0; hands = n.1 }
same (journal.Window w) r x =
    let n = none change_answer change_values change-alike (window_of x w) (promises.demand1 (set_window w) x).room in
    record { tells = n.0; hands = n.1 }
same (journal.Seal t p n) r x =
    let s = one use_answer use_values use-alike (seal_of x t (direction_of (p % 2)) (connection_of (p / 2 + 1)) r (lent n)) in record { tells = s.0; hands = s.1 }
same (journal.Opaque t p n) r x =
    let s = one use_answer use_values use-alike (seal_opaque_of x t (direction_of (p % 2)) (connection_of (p / 2 + 1)) r (lent n)) in record { tells = s.0; hands = s.1 }
same (journal.Open p n m) r x =
    let s = two open_answer open_values open-alike (open_of x (direction_of (p % 2)) (connection_of (p / 2 + 1)) r (lent n) (lent m)) in record { tells = s.0; hands = s.1 }
same (journal.EpsSeal n) r x = let s = one use_answer use_values use-alike (seal_eps_of x r (lent n)) in record { tells = s.0; hands = s.1 }
same (journal.EpsOpen n) r x = let s = one eps_answer eps_open_values eps-alike (open_eps_of x r (lent n)) in record { tells = s.0; hands = s.1 }
same journal.N1ToS1 r x =
    let n = none octet_answer octet_values octet-alike (n1_to_s1_of x) (promises.demand1 make_n1_to_s1 x).room in record { tells = n.0; hands = n.1 }
same (journal.VerifyN1ToS1 o) r x =
    let n = none verify_answer verify_values verify-alike (verify_n1_to_s1_of x o) (promises.demand1 (verify_n1_to_s1 o) x).room in
    record { tells = n.0; hands = n.1 }
same (journal.S1ToN1 p k n) r x = let s = one use_answer use_values use-alike (s1_to_n1_of x p k (lent n)) in record { tells = s.0; hands = s.1 }
same journal.VerifyS1ToN1 r x =
    let n = none use_answer use_values use-alike (verify_s1_to_n1_of x r) (promises.demand1 (verify_s1_to_n1 r) x).room in record { tells = n.0; hands = n.1 }
same (journal.Initial k n) r x =
    let s = one use_answer use_values use-alike (initial_of x (connection_of (k % 2 + 1)) r (lent n)) in record { tells = s.0; hands = s.1 }

-- a journal's answers are what its steps do
in_order : (is : List Item) (x : Context) → told_in (answered (lines_in is) x) ≡ run (steps_in is) x
unfolding answered line_of
in_order [] x = refl
in_order (skipped n ∷ is) x = in_order is x
in_order (call kind bytes ∷ is) x =
    let e = entry_at kind bytes in
    let r = rest_of kind bytes in
    let s = same e r x in
    ap (λ os. os ++ told_in (answered (lines_in is) (handed (performed (line_for e r) r x)))) s.tells
    ∙ ap (λ y. run (steps_for e r) x ++ told_in (answered (lines_in is) y)) s.hands
    ∙ ap (λ os. run (steps_for e r) x ++ os) (in_order is (after (steps_for e r) x))
    ∙ run-append (steps_for e r) (steps_in is) x

-- the same with the last step first, from the start on
abbrev here : List Step → Context
here [] = (makes start).context
here (s ∷ ss) = (does s (here ss)).0.context

abbrev done : List Step → List (Outcome × List ℕ)
done [] = (makes start, []) ∷ []
done (s ∷ ss) = does s (here ss) ∷ done ss

backwards : (ss before : List Step) → reverse_aux (run ss (here before)) (done before) ≡ done (reverse_aux ss before)
backwards [] before = refl
backwards (s ∷ ss) before = backwards ss (s ∷ before)

-- the last part, and what it leaves
pub record Last (ss : List Step) : Type 0 where
  pub part : Part
  pub others : List Part
  pub is : parts ss ≡ part ∷ others
  pub leaves : here ss ≡ context_after gives (beginning part) part.calls
  pub gave : done ss ≡ given_in (parts ss)

last : (ss : List Step) → Last ss
last [] = record { part = _; others = _; is = refl; leaves = refl; gave = refl }
last (making m ∷ ss) =
    record { part = _; others = _; is = refl; leaves = refl; gave = ap (λ os. (makes m, []) ∷ os) (last ss).gave }
last (calling k ∷ ss) =
    let l = last ss in
    record {
      part = record { made = l.part.made; calls = k ∷ l.part.calls };
      others = l.others;
      is = ap (extended (calling k)) l.is;
      leaves = ap (λ y. (gives k y).context) l.leaves;
      gave =
          let y = context_after gives (beginning l.part) l.part.calls in
          ap (λ z. (gives k z, second k z) ∷ done ss) l.leaves
          ∙ ap (λ os. (gives k y, second k y) ∷ os) (l.gave ∙ ap given_in l.is)
          ∙ sym (ap (λ ps. given_in (extended (calling k) ps)) l.is);
    }

answers : (l : List ℕ) → reverse ((makes start, []) ∷ told_in (replayed (items l) (makes start).context)) ≡ given_in (parts_of l)
unfolding replayed parts_of
answers l =
    ap (λ os. reverse_aux os ((makes start, []) ∷ [])) (in_order (items l) (makes start).context)
    ∙ backwards (steps_in (items l)) []
    ∙ (last (reverse (steps_in (items l)))).gave

-- an accepted creation or restore begins demand 3
accepted : (n : ℕ) (z : Context) (t : Bool) → eqb n 0 ≡ t → Succeeds (outcome change_values (left n z t)) → left n z t ≡ leaves change.Done (outcome change_values (left n z t)).context []
accepted n z true e s = refl
accepted n z false e s = absurd (eqb-false n 0 e s)

begins : (m : Making) → Succeeds (makes m) → (integrity_in m ≡ 0 → ⊥) → Begins (makes m).context
unfolding new_of restore_of
begins (create i c ik ck) s g =
    let m = create i c ik ck in
    fresh (record { integrity = i; ciphering = c; integrity_key = ik; ciphering_key = ck; made = accepted (refusal-of m) (made_of m) (eqb (refusal-of m) 0) refl s; guarded = g })
begins (restore i c ik ck next) s g =
    let m = restore i c ik ck next in
    restored (record { integrity = i; ciphering = c; integrity_key = ik; ciphering_key = ck; next = next; made = accepted (refusal-of m) (made_of m) (eqb (refusal-of m) 0) refl s; guarded = g })

-- a refused one hands back the refused context, on which nothing is used
not-accepted : (n : ℕ) (z : Context) (t : Bool) → (Succeeds (outcome change_values (left n z t)) → ⊥) → (outcome change_values (left n z t)).context ≡ refused_context
not-accepted n z true s = absurd (s refl)
not-accepted n z false s = refl

refused : (m : Making) → (Succeeds (makes m) → ⊥) → (makes m).context ≡ refused_context
unfolding new_of restore_of
refused (create i c ik ck) s = let m = create i c ik ck in not-accepted (refusal-of m) (made_of m) (eqb (refusal-of m) 0) s
refused (restore i c ik ck next) s = let m = restore i c ik ck next in not-accepted (refusal-of m) (made_of m) (eqb (refusal-of m) 0) s

stays : (ks : List Call) → context_after gives refused_context ks ≡ refused_context
stays [] = refl
stays (k ∷ ks) =
    let e = promises.demand1-making.refuses k in
    let n : (gives k refused_context).values.number ≡ 13 = ap (λ (v : Values). v.number) e in
    ap (λ y. (gives k y).context) (stays ks) ∙ ((promises.demand1 k refused_context).kept (λ z. omega arith) (λ z. omega arith)).1

nothing : (b : Bool) → ◌≡◌ {A = List ℕ} (cond b [] []) []
nothing true = refl
nothing false = refl

none-used : (p : ℕ) (ks : List Call) → counts_used gives p refused_context ks ≡ []
none-used p [] = refl
none-used p (k ∷ ks) =
    let e : (gives k (context_after gives refused_context ks)).values ≡ refusal 13 = ap (λ y. (gives k y).values) (stays ks) ∙ promises.demand1-making.refuses k in
    ap (λ (v : Values). cond (eqb p (place_in k)) (used_by v) [] ++ counts_used gives p refused_context ks) e
    ∙ ap (λ (u : List ℕ). u ++ counts_used gives p refused_context ks) (nothing (eqb p (place_in k)))
    ∙ none-used p ks

pub of-journal : OfJournal
of-journal =
    record {
      answers = answers;
      demand3 = λ P s g h. promises.demand3 (beginning P) (begins P.made s g) P.calls h;
      unused = λ P s p. ap (λ x. counts_used gives p x P.calls) (refused P.made s) ∙ none-used p P.calls;
    }
