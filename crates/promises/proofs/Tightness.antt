-- No second answer fits, and wrong contexts do not keep demand 3.
use Rattle.std.specs.Prelude.{⊤, Some, Result, Ok, Err}
use Prim.Native.Nat.{ℕ, ◌-◌, ◌%◌, ◌≤◌, ◌<◌}
use mathlib.Core.Path.{◌≡◌, refl, sym, ap, ◌∙◌, subst}
use mathlib.Core.Bool.{Bool, true, cond}
use mathlib.Core.Logic.{inl, inr, ⊎_elim}
use mathlib.Core.List.{List, [], ◌∷◌, zip_with}
use native.Mathlib.Omega.{arith}
use lib.ListN.{get_or, replicate}
use Rattle.aes.specs.Field.{x_times, times, times_bits, squares, inverse, affine, sbox}
use Rattle.aes.specs.Cipher.{to_state, from_state, sub_bytes, shift_rows, mix_columns, word, add_round_key, rounds, cipher, rcon, turned, next_word, words, expand_key}
use Rattle.aes.specs.Counter.{counter, keystream, ctr_of}
use Rattle.aes.specs.Nas.{head, nea2_of}
use Rattle.algorithms.specs.Codes.{is_built}
use Rattle.count.specs.declared.Record.{Record}
use Rattle.count.specs.Rule.{forward_of, late_of, use_forward, resize_of}
use Rattle.count.specs.Run.{State, Act, stay, uses, forward, late as late_use, round, resize, close, act, used, Valid, In, NoneTwice}
use Rattle.count.proofs.Distance.{distance-ends}
use Rattle.count.proofs.Candidates.{clash, forward-found, at_open, late-found}
use Rattle.count.proofs.Law.{to_clear}
use Rattle.nas_core.specs.Refusals.{unbuilt}
use Rattle.nas_core.specs.Keyed.{wraps}
use Rattle.nas_core.specs.Verify.{fits}
use Rattle.nas_5gs.specs.declared.Context.{Context}
use Rattle.refusals.specs.declared.Refusal.{Refusal}
use Rattle.nas_core.specs.declared.Spent.{Spent}
use Rattle.nas_core.specs.declared.Received.{Received}
use Rattle.nas_5gs.specs.declared.Opened.{Opened}
use Rattle.nas_5gs.specs.declared.OpenError.{OpenError}
use Rattle.nas_5gs.specs.declared.OpenError.TheVariants as error
use Rattle.nas_5gs.specs.declared.EpsReceived.{EpsReceived}
use Rattle.nas_5gs.specs.declared.MadeOctet.{MadeOctet}
use Rattle.nas_5gs.specs.declared.Reached.{Reached}
use Rattle.promise.proofs.Read.{refusal_with, refusal-back, change_with, change-told, use_with, use-told}
use Rattle.nas_core.specs.ChangeAnswer.{ChangeAnswer, told_change}
use Rattle.nas_core.specs.ChangeAnswer as change
use Rattle.nas_core.specs.UseAnswer.{UseAnswer, told_use}
use Rattle.nas_core.specs.UseAnswer as use'
use Rattle.nas_5gs.specs.OpenAnswer.{OpenAnswer, told_open}
use Rattle.nas_5gs.specs.OpenAnswer as open'
use Rattle.nas_5gs.specs.EpsOpenAnswer.{EpsOpenAnswer, told_eps_open}
use Rattle.nas_5gs.specs.EpsOpenAnswer as eps
use Rattle.nas_5gs.specs.OctetAnswer.{OctetAnswer, told_octet}
use Rattle.nas_5gs.specs.OctetAnswer as octet
use Rattle.nas_5gs.specs.VerifyAnswer.{VerifyAnswer, told_verify}
use Rattle.nas_5gs.specs.VerifyAnswer as verify
use Rattle.nas_core.specs.declared.Direction.TheVariants.{Uplink}
use Rattle.nas_5gs.specs.declared.Connection.TheVariants.{ThreeGpp}
use Rattle.nas_5gs.specs.Places.{place_of, record_at, next_at}
use Rattle.nas_5gs.specs.Leaves.{LeavesTwo, leaves_two, Leaves, leaves, Values, change_values, use_values, open_values, eps_open_values, octet_values, verify_values}
use Rattle.nas_5gs.specs.Changes.{context_with, resized, new_of}
use Rattle.nas_5gs.specs.Envelope.{envelope}
use Rattle.promises.specs.Calls.{Call, set_window, seal5gs, seal_opaque, seal_initial, open5gs, seal_eps, open_eps, make_n1_to_s1, verify_n1_to_s1, make_s1_to_n1, verify_s1_to_n1, reselect, Outcome, outcome, first_of, second_of, gives, makes, used_by, context_after, counts_used}
use Rattle.promises.specs.Words.{record_of, TakenAs}
use Rattle.promises.specs.Demand2.{Estimates}
use Rattle.promises.specs.Demand3.{fresh as begun, NeverTo, Demand3, Fresh, StillOpen, Opens, Keeps}
use Rattle.promises.specs.Tightness.{AnswerOf, change_told, use_told, Meets, OnlyOne, RefusesAll, OpensAsNext, LeavesStill, NeverLate, AsInP6, p6_calls, Tightness}
use Rattle.promises.proofs.Shapes.{does, acts}
use Rattle.promises.proofs.Soundness.{does-valid, own-after}
use Rattle.promises.proofs.Passing.{passes, gives-passed}
use Rattle.promises.proofs.Taking.{no-fault}
use Rattle.promises.proofs.Demand3.{started, guarded-now, keeps}

-- an answer is read back from its values
abbrev change_read : Values → ChangeAnswer
change_read v = cond v.refused (change.Refused v.number) change.Done

change-back : (a : ChangeAnswer) → change_read (change_values a) ≡ a
change-back (change.Refused n) = refl
change-back change.Done = refl

abbrev use_read : Values → UseAnswer
use_read v = cond v.refused (use'.Refused v.number) (use'.Used v.count v.wrote)

use-back : (a : UseAnswer) → use_read (use_values a) ≡ a
use-back (use'.Refused n) = refl
use-back (use'.Used c w) = refl

abbrev open_read : Values → OpenAnswer
open_read v =
    cond v.uses
    (cond v.refused (open'.Content v.count v.distance v.wrote v.header v.carried) (open'.Accepted v.count v.distance v.wrote v.header v.second))
    (open'.Refused v.number)

open-back : (a : OpenAnswer) → open_read (open_values a) ≡ a
open-back (open'.Refused n) = refl
open-back (open'.Accepted c f w t s) = refl
open-back (open'.Content c f w t n) = refl

abbrev eps_read : Values → EpsOpenAnswer
eps_read v =
    cond v.uses (cond v.refused (eps.Content v.count v.distance v.wrote v.carried) (eps.Accepted v.count v.distance v.wrote)) (eps.Refused v.number)

eps-back : (a : EpsOpenAnswer) → eps_read (eps_open_values a) ≡ a
eps-back (eps.Refused n) = refl
eps-back (eps.Accepted c f w) = refl
eps-back (eps.Content c f w n) = refl

abbrev octet_read : Values → OctetAnswer
octet_read v = cond v.refused (octet.Refused v.number) (octet.Made v.count v.octet)

octet-back : (a : OctetAnswer) → octet_read (octet_values a) ≡ a
octet-back (octet.Refused n) = refl
octet-back (octet.Made c o) = refl

abbrev verify_read : Values → VerifyAnswer
verify_read v = cond v.refused (verify.Refused v.number) (verify.Verified v.count v.distance)

verify-back : (a : VerifyAnswer) → verify_read (verify_values a) ≡ a
verify-back (verify.Refused n) = refl
verify-back (verify.Verified c f) = refl

-- and the code's answer from its words
abbrev open_with : OpenAnswer → Result Opened (OpenError Received)
open_with (open'.Refused n) = Err (error.Refused (refusal_with n))
open_with (open'.Accepted c f w t s) = Ok (record { message = record { count = c; distance = f; wrote = w; header_type = t }; second = s })
open_with (open'.Content c f w t n) = Err (error.Content (record { count = c; distance = f; wrote = w; header_type = t }) (refusal_with n))

open-told : (a : Result Opened (OpenError Received)) → open_with (told_open a) ≡ a
open-told (Ok o) = refl
open-told (Err (error.Refused r)) = ap (λ q. Err (error.Refused q)) (refusal-back r)
open-told (Err (error.Content m r)) = ap (λ q. Err (error.Content m q)) (refusal-back r)

abbrev eps_with : EpsOpenAnswer → Result EpsReceived (OpenError EpsReceived)
eps_with (eps.Refused n) = Err (error.Refused (refusal_with n))
eps_with (eps.Accepted c f w) = Ok (record { count = c; distance = f; wrote = w })
eps_with (eps.Content c f w n) = Err (error.Content (record { count = c; distance = f; wrote = w }) (refusal_with n))

eps-told : (a : Result EpsReceived (OpenError EpsReceived)) → eps_with (told_eps_open a) ≡ a
eps-told (Ok m) = refl
eps-told (Err (error.Refused r)) = ap (λ q. Err (error.Refused q)) (refusal-back r)
eps-told (Err (error.Content m r)) = ap (λ q. Err (error.Content m q)) (refusal-back r)

abbrev octet_with : OctetAnswer → Result MadeOctet Refusal
octet_with (octet.Refused n) = Err (refusal_with n)
octet_with (octet.Made c o) = Ok (record { count = c; octet = o })

octet-told : (a : Result MadeOctet Refusal) → octet_with (told_octet a) ≡ a
octet-told (Ok m) = refl
octet-told (Err r) = ap Err (refusal-back r)

abbrev verify_with : VerifyAnswer → Result Reached Refusal
verify_with (verify.Refused n) = Err (refusal_with n)
verify_with (verify.Verified c f) = Ok (record { count = c; distance = f })

verify-told : (a : Result Reached Refusal) → verify_with (told_verify a) ≡ a
verify-told (Ok v) = refl
verify-told (Err r) = ap Err (refusal-back r)

-- so an outcome fixes what was left
module _ {A : Type 0} (v : A → Values) (read : Values → A) (back : (a : A) → read (v a) ≡ a) where
  abbrev left_in : Outcome → Leaves A
  left_in o = leaves (read o.values) o.context o.output

  left_back : (l : Leaves A) → left_in (outcome v l) ≡ l
  left_back (leaves a x out) = ap (λ (a' : A). leaves a' x out) (back a)

  one_left : (o : Outcome) (l l' : Leaves A) → outcome v l ≡ o → outcome v l' ≡ o → l ≡ l'
  one_left o l l' p q = sym (left_back l) ∙ ap left_in (p ∙ sym q) ∙ left_back l'

-- by the words of an answer and their values
module _ {A W : Type 0} (told : A → W) (with' : W → A) (told-back : (a : A) → with' (told a) ≡ a) (v : W → Values) (read : Values → W)
    (back : (w : W) → read (v w) ≡ w) where
  one_told : (o : Outcome) (l l' : Leaves A) → outcome (λ a. v (told a)) l ≡ o → outcome (λ a. v (told a)) l' ≡ o → l ≡ l'
  one_told = one_left (λ a. v (told a)) (λ u. with' (read u)) (λ a. ap with' (back (told a)) ∙ told-back a)

one-used : (o : Outcome) (l l' : Leaves (Result Spent Refusal)) → outcome use_told l ≡ o → outcome use_told l' ≡ o → l ≡ l'
one-used = one_told told_use use_with use-told use_values use_read use-back

one-changed : (o : Outcome) (l l' : Leaves (Result ⊤ Refusal)) → outcome change_told l ≡ o → outcome change_told l' ≡ o → l ≡ l'
one-changed = one_told told_change change_with change-told change_values change_read change-back

one_only : (k : Call) (x : Context) (l l' : Leaves (AnswerOf k)) → Meets k x l → Meets k x l' → l ≡ l'
one_only (set_window n) x = one-changed (gives (set_window n) x)
one_only (seal5gs t d k inner out) x = one-used (gives (seal5gs t d k inner out) x)
one_only (seal_opaque t d k inner out) x = one-used (gives (seal_opaque t d k inner out) x)
one_only (seal_initial k w out) x = one-used (gives (seal_initial k w out) x)
one_only (open5gs d k m out out2) x = one_told told_open open_with open-told open_values open_read open-back (gives (open5gs d k m out out2) x)
one_only (seal_eps inner out) x = one-used (gives (seal_eps inner out) x)
one_only (open_eps m out) x = one_told told_eps_open eps_with eps-told eps_open_values eps_read eps-back (gives (open_eps m out) x)
one_only make_n1_to_s1 x = one_told told_octet octet_with octet-told octet_values octet_read octet-back (gives make_n1_to_s1 x)
one_only (verify_n1_to_s1 s) x = one_told told_verify verify_with verify-told verify_values verify_read verify-back (gives (verify_n1_to_s1 s) x)
one_only (make_s1_to_n1 ncc ngksi out) x = one-used (gives (make_s1_to_n1 ncc ngksi out) x)
one_only (verify_s1_to_n1 v) x = one-used (gives (verify_s1_to_n1 v) x)
one_only (reselect i c ik ck) x = one-changed (gives (reselect i c ik ck) x)

-- two outputs: by the first half and the second
two-one : {A : Type 0} (l l' : LeavesTwo A) → first_of l ≡ first_of l' → second_of l ≡ second_of l' → l ≡ l'
two-one (leaves_two a x out out2) (leaves_two a' x' out' out2') e f = cc

pub only_one : OnlyOne
only_one =
    record {
      calls = one_only;
      both = λ d k m out out2 x l l' p q.
          two-one l l' (one_only (open5gs d k m out out2) x (first_of l) (first_of l') p.0 q.0) (p.1 ∙ sym q.1);
      makings = λ m. one-changed (makes m);
    }

-- a fresh context with integrity code 2, and a message of one octet
abbrev zeros : List ℕ
zeros = replicate 16 0

abbrev x : Context
x = context_with 2 0 zeros zeros (replicate 4 0)

fresh : Fresh x
unfolding new_of unbuilt is_built
fresh =
    record { integrity = 2; ciphering = 0; integrity_key = zeros; ciphering_key = zeros; made = refl; guarded = λ e. omega arith }

abbrev one : List ℕ
one = 0 ∷ []

abbrev message : ℕ → List ℕ
message c = envelope x.core 1 c 1 0 one

abbrev opening : ℕ → Call
opening c = open5gs Uplink ThreeGpp (message c) one one

-- calls none of which is a reselection
abbrev Plain : List Call → Type 0
Plain [] = Unit {0}
Plain (k ∷ ks) = ((i c : ℕ) (ik ck : List ℕ) → k ≡ reselect i c ik ck → ⊥) × Plain ks

plain-never : (G : Call → Context → Outcome) (P : ℕ → Type 0) (x : Context) (ks : List Call) → Plain ks → NeverTo G P x ks
plain-never G P x [] h = tt
plain-never G P x (k ∷ ks) h = ((λ i c ik ck e q s. h.0 i c ik ck e), plain-never G P x ks h.1)

open_plain : (m out out2 : List ℕ) (i c : ℕ) (ik ck : List ℕ) → open5gs Uplink ThreeGpp m out out2 ≡ reselect i c ik ck → ⊥
open_plain m out out2 i c ik ck e = let z : ◌≡◌ {A = ℕ} 0 1 = cc in omega arith

window-plain : Plain (set_window 8 ∷ [])
window-plain = ((λ i c ik ck e. let z : ◌≡◌ {A = ℕ} 0 1 = cc in omega arith), tt)

module _ (G : Call → Context → Outcome) (keeps : Keeps G) where
  -- demand 3, after calls without a reselection
  kept : (ks : List Call) → Plain ks → Demand3 G x ks
  kept ks h = keeps x (begun fresh) ks (plain-never G (λ i. i ≡ 0) x ks h)

  opens : (ks : List Call) → Plain ks → (c : ℕ) → c < 256
      → Opens G 0 x ks (λ c'. fits (context_after G x ks).core c' 1 0 2 (message c) ≡ true) (G (opening c) (context_after G x ks)) c one one
  opens ks plain c h =
      (kept ks plain).opens Uplink ThreeGpp x.core 1 c one one one ((kept ks plain).keys (plain-never G (λ i. Unit {0}) x ks plain)) (omega arith) (omega arith) (omega arith) (omega arith) (omega arith) (omega arith) (λ e f. omega arith)

  -- where nothing lies below next, a COUNT ahead is taken
  taken : (ks : List Call) → Plain ks → (c : ℕ) → c < 256 → next_at (context_after G x ks) 0 ≡ 0 → ((c' : ℕ) → StillOpen G 0 x ks c' → ⊥)
      → TakenAs (G (opening c) (context_after G x ks)) c one one
  taken ks plain c h n none = (opens ks plain c h).exactly.1 (inr ((omega arith, omega arith), λ c' s q f. none c' s))

  taken-first : (c : ℕ) → c < 256 → TakenAs (G (opening c) x) c one one
  taken-first c h = taken [] tt c h refl (λ c' s. s.1)

  refused : RefusesAll G → ⊥
  refused r = clash (taken-first 0 (omega arith)).uses (r x Uplink ThreeGpp (message 0) one one)

  -- the COUNT 0 taken twice
  abbrev again : List Call
  again = opening 0 ∷ opening 0 ∷ []

  used-at : (ks : List Call) (c : ℕ) → TakenAs (G (opening c) (context_after G x ks)) c one one
      → used_by (G (opening c) (context_after G x ks)).values ≡ c ∷ []
  used-at ks c t = rw (t.uses, t.count)

  still : LeavesStill G → ⊥
  still r =
      let e : context_after G x (opening 0 ∷ []) ≡ x = r x Uplink ThreeGpp (message 0) one one in
      let n : next_at (context_after G x (opening 0 ∷ [])) 0 ≡ 0 = ap (λ (y : Context). next_at y 0) e in
      let a = used-at [] 0 (taken-first 0 (omega arith)) in
      let b = used-at (opening 0 ∷ []) 0 (taken (opening 0 ∷ []) (open_plain (message 0) one one, tt) 0 (omega arith) n (λ c s. let w = s.1.0.under in omega arith)) in
      let l : counts_used G 0 x again ≡ 0 ∷ 0 ∷ [] = rw (a, b) in
      let t : NoneTwice (0 ∷ 0 ∷ []) = subst NoneTwice l ((kept again (open_plain (message 0) one one, (open_plain (message 0) one one, tt))).once Uplink ThreeGpp) in
      t.0 (inl refl)

  -- P6: window 8, the message for COUNT 5, then the one for COUNT 3
  abbrev p6 : List Call
  p6 = opening 5 ∷ set_window 8 ∷ []

  late : AsInP6 G → NeverLate G → ⊥
  late s r =
      let w = s.sized x fresh in
      let n : next_at (context_after G x (set_window 8 ∷ [])) 0 ≡ 0 = w.0 in
      let t = taken (set_window 8 ∷ []) window-plain 5 (omega arith) n (λ c h. let u = h.1.0.under in omega arith) in
      let m = s.moved x fresh (message 5) one one t.uses t.count in
      let l : counts_used G 0 x p6 ≡ 5 ∷ [] = rw (used-at (set_window 8 ∷ []) 5 t) in
      let unused : In 3 (counts_used G 0 x p6) → ⊥ = λ i. not_five (subst (In 3) l i) in
      let e = (opens p6 (open_plain (message 5) one one, window-plain) 3 (omega arith)).exactly.1 (inl (unused, (record { under = omega arith; near = omega arith }, inl (omega arith, omega arith)))) in
      let q = r x fresh (message 3) one one e.uses in
      omega (arith, e.count, m.0)
    where
      not_five : In 3 (5 ∷ []) → ⊥
      not_five (inl h) = omega arith
      not_five (inr x'') = elim x'' [ ]

-- a candidate of the COUNT rule that is the next COUNT ends as the message does
late_below : (size : ℕ) (r : Record) (s : ℕ) → late_of 8 size r s ≡ Some r.next → ⊥
late_below size r s e =
    let a = at_open size r (r.next - 1 - r.next) (late-found 8 size r s r.next e).0 in omega (arith, a.down)

ahead-ends : (w : Bool) (r : Record) (s : ℕ) → forward_of 8 w r s ≡ Some r.next → s % 256 ≡ r.next % 256
ahead-ends w r s e =
    elim (forward-found 8 w r s r.next e).1 [
      | inl t ↦ sym t.ends
      | inr t ↦ omega (arith, distance-ends 8 r.next s)
    ]

as-next : (G : Call → Context → Outcome) → OpensAsNext G → ((x : Context) → Estimates G x) → ⊥
as-next G r e =
    let p = record_at r.x (place_of r.d r.k) in
    ⊎_elim (late_below r.x.core.size p (get_or r.m 6 0))
    (λ h. r.other (ahead-ends (wraps r.x.core) p (get_or r.m 6 0) h))
    ((e r.x).opens r.d r.k r.m r.out r.out2 (next_at r.x (place_of r.d r.k)) r.uses).0

-- the calls themselves are as in P6
window-set : (x : Context) → Fresh x → gives (set_window 8) x ≡ passes (set_window 8) x
window-set x f =
    let s = started x f in
    gives-passed (set_window 8) x (simp (no-fault x s.beginning.ok.built s.beginning.ok.small s.beginning.ok.counts))

sized : (x : Context) → Fresh x → let y = (gives (set_window 8) x).context in (next_at y 0 ≡ 0) × (y.core.size ≡ 8)
unfolding resized resize_of
sized x f = rw (window-set x f) ((started x f).zeros 0 (omega arith), refl)

used-five : (a : Act) (s : State) → Valid a s → used a ≡ 5 ∷ [] → s.at.next ≡ 0 → ((act a s).at.next ≡ 6) × ((act a s).size ≡ s.size)
unfolding use_forward
used-five stay s v e n = let z : ◌≡◌ {A = ℕ} 0 1 = cc in absurd (omega arith)
used-five (uses forward c) s v e n = let q : c ≡ 5 = cc in (omega arith, refl)
used-five (uses late_use c) s v e n = let w = (to_clear s c v).within.under in absurd (omega arith)
used-five (uses round c) s v e n = absurd v
used-five (resize m) s v e n = let z : ◌≡◌ {A = ℕ} 0 1 = cc in absurd (omega arith)
used-five close s v e n = absurd v

moved : (x : Context) → Fresh x → (m out out2 : List ℕ)
    → let o = gives (open5gs Uplink ThreeGpp m out out2) (gives (set_window 8) x).context in
    o.values.uses ≡ true → o.values.count ≡ 5 → (next_at o.context 0 ≡ 6) × (o.context.core.size ≡ 8)
moved x f m out out2 u e =
    let y = (gives (set_window 8) x).context in
    let k = open5gs Uplink ThreeGpp m out out2 in
    let s = started x f in
    let g = (guarded-now x s.beginning (set_window 8 ∷ []) (plain-never gives (λ i. i ≡ 0) x (set_window 8 ∷ []) window-plain)).good in
    let w = sized x f in
    let c : used (does k y) ≡ 5 ∷ [] = sym (acts k y g.four).counts ∙ rw (u, e) in
    let t = used-five (does k y) (record_of 0 y) (does-valid y g.guarded k) c w.0 in
    (ap (λ (z : State). z.at.next) (own-after k y g.four (omega arith)) ∙ t.0, (acts k y g.four).size-after ∙ t.1 ∙ w.1)

-- P6 over the calls
module _ (x : Context) (f : Fresh x) where
  abbrev five : Call
  five = open5gs Uplink ThreeGpp (envelope x.core 1 5 1 0 one) one one

  abbrev wide : Context
  wide = (gives (set_window 8) x).context

  five-taken : TakenAs (gives five wide) 5 one one
  five-taken =
      let n = (sized x f).0 in
      let d = keeps x (begun f) (set_window 8 ∷ []) (plain-never gives (λ i. i ≡ 0) x (set_window 8 ∷ []) window-plain) in
      (d.opens Uplink ThreeGpp x.core 1 5 one one one (d.keys (plain-never gives (λ i. Unit {0}) x (set_window 8 ∷ []) window-plain)) (omega arith) (omega arith) (omega arith) (omega arith) (omega arith) (omega arith) (λ e f. omega arith)
      ).exactly.1 (inr ((omega arith, omega arith), λ c s q h. let w = s.1.0.under in omega arith))

  p6-counts : counts_used gives 0 x (p6_calls x) ≡ 5 ∷ []
  p6-counts = rw (five-taken.uses, five-taken.count)

  p6-still : (c : ℕ) → c ≤ 4 → StillOpen gives 0 x (p6_calls x) c
  p6-still c h =
      let n = (sized x f).0 in
      let m = moved x f (envelope x.core 1 5 1 0 one) one one five-taken.uses five-taken.count in
      ((λ i. unused (subst (In c) p6-counts i)), (record { under = omega arith; near = omega arith }, inl (omega arith, omega arith)))
    where
      unused : In c (5 ∷ []) → ⊥
      unused (inl e) = omega arith
      unused (inr x'') = elim x'' [ ]

-- NEA2 changes an octet: AES of the zero block under the zero key begins with 66
changes : nea2_of zeros 0 0 0 (0 ∷ []) ≡ 0x66 ∷ []
unfolding expand_key words next_word turned rcon word x_times sbox affine inverse squares times times_bits zip_with cipher rounds add_round_key mix_columns shift_rows sub_bytes to_state from_state ctr_of keystream counter head nea2_of
changes = refl

pub tightness : Tightness
tightness =
    record {
      p6-late = λ x f. ((moved x f (envelope x.core 1 5 1 0 one) one one (five-taken x f).uses (five-taken x f).count).0, p6-still x f);
      refuses-all = λ G r k. refused G k r;
      opens-as-next = as-next;
      leaves-still = λ G r k. still G k r;
      p6 = record { sized = sized; moved = moved };
      never-late = λ G s r k. late G k s r;
      invents = λ G r e. clash ((e r.x).opens r.d r.k r.m r.out r.out2 r.c r.uses).1 r.unfit;
      copies = λ c.
          let e : ◌≡◌ {A = List ℕ} (0x66 ∷ []) (0 ∷ []) = sym changes ∙ c zeros 0 0 0 (0 ∷ []) in
          let z : ◌≡◌ {A = ℕ} 0x66 0 = cc in omega arith;
    }
