-- No second answer fits, and wrong contexts do not keep demand 3.
use Rattle.std.specs.Prelude.{Result, Ok, Err}
use Prim.Native.Nat.{ℕ}
use mathlib.Core.Path.{◌≡◌, refl, sym, ap, ◌∙◌, subst}
use mathlib.Core.Logic.{inl}
use mathlib.Core.List.{List, [], ◌∷◌}
use native.Mathlib.Omega.{arith}
use lib.ListN.{replicate}
use Rattle.algorithms.specs.Codes.{is_built}
use Rattle.count.specs.Run.{NoneTwice}
use Rattle.nas_core.specs.Refusals.{unbuilt}
use Rattle.nas_eps.specs.declared.Context.{Context}
use Rattle.nas_core.specs.declared.Direction.TheVariants.{Uplink}
use Rattle.refusals.specs.declared.Refusal.{Refusal}
use Rattle.nas_core.specs.ChangeAnswer.{told_change}
use Rattle.nas_core.specs.UseAnswer.{told_use}
use Rattle.nas_eps.specs.declared.Opened.{Opened}
use Rattle.nas_eps.specs.declared.Opened.TheVariants as opened
use Rattle.nas_eps.specs.OpenAnswer.{OpenAnswer, told_open}
use Rattle.nas_eps.specs.OpenAnswer as open'
use Rattle.nas_eps.specs.Leaves.{Leaves, leaves, change_values}
use Rattle.nas_eps.specs.Changes.{context_with, new_of}
use Rattle.nas_eps.specs.Octets.{service_request}
use Rattle.promise.proofs.Acts.{same_keys}
use Rattle.promise.proofs.Read.{refusal_with, refusal-back, change_with, change-told, use_with, use-told}
use Rattle.promises_eps.specs.Calls.{Call, set_window, reselect, seal_message, seal_request, open_message, Making, create, restore, Outcome, outcome, gives, makes, context_after, counts_used}
use Rattle.promises_eps.specs.Words.{AnswersRequest}
use Rattle.promises_eps.specs.Demand3.{fresh as begun, NeverTo, Fresh, Keeps}
use Rattle.promises_eps.specs.Tightness.{AnswerOf, values_of, left_of, made_of, in_words, Meets, OnlyOne, LeavesStill, here, Tightness}
use Rattle.promises_eps.proofs.Taking.{request-is}

-- the values of an answer are what the promises speak of
values-given : (k : Call) (x : Context) → outcome (values_of k) (left_of k x) ≡ gives k x
values-given (set_window n) x = refl
values-given (reselect i c ik ck) x = refl
values-given (seal_message t d inner out) x = refl
values-given (seal_request i out) x = refl
values-given (open_message d m out) x = refl

values-made : (m : Making) → outcome change_values (made_of m) ≡ makes m
values-made (create i c ik ck) = refl
values-made (restore i c ik ck up down) = refl

-- the code's answer is read back from its words
abbrev open_with : OpenAnswer → Result Opened Refusal
open_with (open'.Refused n) = Err (refusal_with n)
open_with (open'.Accepted c f w t) = Ok (opened.Message (record { count = c; distance = f; wrote = w; header_type = t }))
open_with (open'.ServiceRequest c f i) = Ok (opened.ServiceRequest c f i)

open-told : (a : Result Opened Refusal) → open_with (told_open a) ≡ a
open-told (Ok (opened.Message m)) = refl
open-told (Ok (opened.ServiceRequest c f i)) = refl
open-told (Err r) = ap Err (refusal-back r)

-- so what is left in words fixes what was left
module _ {A W : Type 0} (told : A → W) (with' : W → A) (back : (a : A) → with' (told a) ≡ a) where
  left_back : (l : Leaves A) → in_words with' (in_words told l) ≡ l
  left_back (leaves a x out) = ap (λ (a' : A). leaves a' x out) (back a)

  one_told : (w : Leaves W) (l l' : Leaves A) → in_words told l ≡ w → in_words told l' ≡ w → l ≡ l'
  one_told w l l' p q = sym (left_back l) ∙ ap (in_words with') (p ∙ sym q) ∙ left_back l'

one_only : (k : Call) (x : Context) (l l' : Leaves (AnswerOf k)) → Meets k x l → Meets k x l' → l ≡ l'
one_only (set_window n) x = one_told told_change change_with change-told (left_of (set_window n) x)
one_only (reselect i c ik ck) x = one_told told_change change_with change-told (left_of (reselect i c ik ck) x)
one_only (seal_message t d inner out) x = one_told told_use use_with use-told (left_of (seal_message t d inner out) x)
one_only (seal_request i out) x = one_told told_use use_with use-told (left_of (seal_request i out) x)
one_only (open_message d m out) x = one_told told_open open_with open-told (left_of (open_message d m out) x)

pub only_one : OnlyOne
only_one =
    record {
      calls = one_only;
      makings = λ m. one_told told_change change_with change-told (made_of m);
      values = values-given;
      made-values = values-made;
    }

-- a fresh context with integrity code 2
abbrev zeros : List ℕ
zeros = replicate 16 0

abbrev x : Context
x = context_with 2 0 zeros zeros 0 0

fresh : Fresh x
unfolding new_of unbuilt is_built
fresh =
    record { integrity = 2; ciphering = 0; integrity_key = zeros; ciphering_key = zeros; made = refl; guarded = λ e. omega arith }

abbrev opening : Call
opening = open_message Uplink (service_request x.core 0 0) []

no-reselection : (i c : ℕ) (ik ck : List ℕ) → opening ≡ reselect i c ik ck → ⊥
no-reselection i c ik ck e = let z : ◌≡◌ {A = ℕ} 0 1 = cc in omega arith

module _ (G : Call → Context → Outcome) (keeps : Keeps G) where
  -- COUNT 0 taken twice
  taken : (ks : List Call) → NeverTo G (λ i. i ≡ 0) x ks → context_after G x ks ≡ x → AnswersRequest (G opening (context_after G x ks)) 0 0 []
  taken ks never e =
      ((keeps x (begun fresh) ks never).requests x.core 0 0 [] (rw e (same_keys x.core)) (omega arith) (omega arith)).1
      (rw e (omega arith, omega arith))

  still : LeavesStill G → ⊥
  still r =
      let e : context_after G x (opening ∷ []) ≡ x = r x (service_request x.core 0 0) [] (request-is x.core 0 0) in
      let once : NeverTo G (λ i. i ≡ 0) x (opening ∷ []) = ((λ i c ik ck q z s. no-reselection i c ik ck q), tt) in
      let twice : NeverTo G (λ i. i ≡ 0) x (opening ∷ opening ∷ []) = ((λ i c ik ck q z s. no-reselection i c ik ck q), once) in
      let a = taken [] tt refl in
      let b = taken (opening ∷ []) once e in
      let l : counts_used G 0 x (opening ∷ opening ∷ []) ≡ 0 ∷ 0 ∷ [] = rw (a.uses, a.count, b.uses, b.count) in
      let t : NoneTwice (0 ∷ 0 ∷ []) = subst NoneTwice l ((keeps x (begun fresh) (opening ∷ opening ∷ []) twice).once Uplink) in
      t.0 (inl refl)

pub tightness : Tightness
tightness =
    record {
      misses = λ G w keeps.
          let q = w.request in
          w.missed (((keeps q.x q.begins q.ks q.never).requests (here q).core q.i q.c q.out (same_keys (here q).core) q.named q.count).1 w.ahead);
      beyond = λ G w keeps.
          let q = w.request in
          w.beyond (((keeps q.x q.begins q.ks q.never).requests (here q).core q.i q.c q.out (same_keys (here q).core) q.named q.count).0 w.taken);
      leaves-still = λ G r keeps. still G keeps r;
    }
