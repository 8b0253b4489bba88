-- What demand 1 says of one outcome, of each shape that outcomes have.
use Rattle.std.specs.Prelude.{Ok, Err}
use Prim.Native.Nat.{ℕ, ◌≤◌}
use mathlib.Core.Path.{◌≡◌, refl, sym, ◌∙◌, subst}
use mathlib.Core.Bool.{Bool, true, false, cond}
use mathlib.Core.Logic.{◌⊎◌, inl, inr}
use mathlib.Core.List.{List}
use native.Mathlib.Omega.{arith}
use lib.ListN.{length, get_or, drop, length-append, length-drop}
use lib.Seq.{drop-append_seam}
use lib.Dec.{eqb, ltb}
use borrow.Author.Tests.{ltb-false}
use Rattle.count.specs.Rule.{Opening}
use Rattle.count.specs.declared.Taken.TheVariants.{Late, Forward}
use Rattle.count.specs.declared.Missed.TheVariants.{NoCandidate, WrongCode}
use Rattle.count.specs.Run.{In}
use Rattle.refusals.specs.Order.{◌when◌, first, refused_or}
use Rattle.refusals.proofs.Laws.{passed, off}
use Rattle.nas_core.specs.Leaves.{Leaves, over, Values, refusal}
use Rattle.promise.specs.Outcomes.{Outcome, outcome}
use Rattle.promise.proofs.Acts.{Holding}
use Rattle.promise.proofs.Answers.{Answering, left}
use Rattle.promise.proofs.Numbers.{Among}

-- a refusal alone
abbrev pub alone : {X : Type 0} → ℕ → X → List ℕ → Outcome X
alone n x out = record { values = refusal n; context = x; output = out }

-- refused or not, the outcome is one of the two
pub split : {X A : Type 0} (v : A → Values) (n : ℕ) (r : ℕ → Leaves X A) (l : Leaves X A)
    → outcome v (refused_or n r l) ≡ refused_or n (λ k. outcome v (r k)) (outcome v l)
split v n r l = go (eqb n 0)
  where
    go : (t : Bool) → outcome v (cond t l (r n)) ≡ cond t (outcome v l) (outcome v (r n))
    go true = refl
    go false = refl

-- what is not refused fits the room
pub fits-room : (l : List ℕ) (i room n : ℕ) → first l ≡ 0 → get_or l i 0 ≡ 5 when (ltb room n) → n ≤ room
fits-room l i room n e q = ltb-false room n (off 5 (ltb room n) (omega arith) (sym q ∙ passed l e i))

pub record Told {X : Type 0} (s : List ℕ) (x : X) (out : List ℕ) (o : Outcome X) : Type 0 where
  pub answers : Among s o.values.number
  pub kept : (o.values.number ≡ 0 → ⊥) → (o.values.number ≡ 8 → ⊥)
      → (o.values ≡ refusal o.values.number) × (o.context ≡ x) × (o.output ≡ out)
  pub behind : drop o.values.wrote o.output ≡ drop o.values.wrote out
  pub room : length o.output ≡ length out
  pub within : o.values.wrote ≤ length out

module _ {X : Type 0} (s : List ℕ) (x : X) (out : List ℕ) where
  pub told-alone : (n : ℕ) → In n s → Told s x out (alone n x out)
  told-alone n h = record { answers = inr h; kept = λ a b. (refl, refl, refl); behind = refl; room = refl; within = omega arith }

  -- a success, or 8
  pub told_over : (v : Values) (y : X) (octets : List ℕ) → (v.number ≡ 0) ⊎ ((v.number ≡ 8) × In 8 s) → v.wrote ≡ length octets
      → length octets ≤ length out → Told s x out (record { values = v; context = y; output = over octets out })
  told_over v y octets number wrote fit =
      record {
        answers = elim number [ inl e ↦ inl e | inr e ↦ inr (subst (λ (n : ℕ). In n s) (sym e.0) e.1) ];
        kept = λ a b. elim number [ inl e ↦ absurd (a e) | inr e ↦ absurd (b e.0) ];
        behind = rw wrote (drop-append_seam octets (drop (length octets) out));
        room = simp (length-append, length-drop) (omega arith);
        within = omega arith;
      }

  -- a received message
  pub told-received : (H : Holding X) {A : Type 0} (v : A → Values) (no' yes' : ℕ → A) (plain_of_lem : ℕ → List ℕ) (a : Answering v no' yes' plain_of_lem) (p : ℕ)
      (o : Opening) → ((n : ℕ) → v (no' n) ≡ refusal n) → ((c : ℕ) → ((v (yes' c)).number ≡ 0) ⊎ (((v (yes' c)).number ≡ 8) × In 8 s)) → In 6 s → In 7 s
      → ((c : ℕ) → length (plain_of_lem c) ≤ length out) → Told s x out (left H v no' yes' plain_of_lem a x p out o)
  told-received H v no' yes' plain_of_lem a p (Err NoCandidate) alike number six seven fit = rw (alike 6) (told-alone 6 six)
  told-received H v no' yes' plain_of_lem a p (Err WrongCode) alike number six seven fit = rw (alike 7) (told-alone 7 seven)
  told-received H v no' yes' plain_of_lem a p (Ok (Late c)) alike number six seven fit =
      told_over (v (yes' c)) (H.late x p c) (plain_of_lem c) (number c) (a.wrote c) (fit c)
  told-received H v no' yes' plain_of_lem a p (Ok (Forward c)) alike number six seven fit =
      told_over (v (yes' c)) (H.ahead x p c) (plain_of_lem c) (number c) (a.wrote c) (fit c)
