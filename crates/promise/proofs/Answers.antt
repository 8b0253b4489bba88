-- When a call takes a message as a COUNT: by what its opening finds.
use Rattle.std.specs.Prelude.{Ok, Err}
use Prim.Native.Nat.{ℕ}
use mathlib.Core.Path.{◌≡◌, sym, ap, ◌∙◌}
use mathlib.Core.Bool.{true, false}
use mathlib.Core.Logic.{◌⊎◌, inl, inr, ◌↔◌}
use mathlib.Core.List.{List}
use native.Mathlib.Omega.{arith}
use lib.ListN.{length}
use Rattle.count.specs.Rule.{Opening}
use Rattle.count.specs.declared.Taken.TheVariants.{Late, Forward}
use Rattle.count.specs.declared.Missed.TheVariants.{NoCandidate, WrongCode}
use Rattle.count.specs.Facts.{Takes}
use Rattle.nas_core.specs.Leaves.{leaves, over, received_as, Values, refusal}
use Rattle.promise.specs.Outcomes.{Outcome, outcome, Uses, TakenAs}
use Rattle.promise.proofs.Acts.{Holding}

-- Answers to a received message: a refusal uses no COUNT; the others use theirs, and are a success or 8.
pub record Answering {A : Type 0} (v : A → Values) (no : ℕ → A) (yes : ℕ → A) (plain_of_lem : ℕ → List ℕ) : Type 0 where
  pub refuses : (n : ℕ) → (v (no n)).uses ≡ false
  pub uses : (c : ℕ) → (v (yes c)).uses ≡ true
  pub count : (c : ℕ) → (v (yes c)).count ≡ c
  pub number : (c : ℕ) → ((v (yes c)).number ≡ 0) ⊎ ((v (yes c)).number ≡ 8)
  pub wrote : (c : ℕ) → (v (yes c)).wrote ≡ length (plain_of_lem c)

module _ {X A : Type 0} (H : Holding X) (v : A → Values) (no : ℕ → A) (yes : ℕ → A) (plain_of_lem : ℕ → List ℕ) (a : Answering v no yes plain_of_lem)
    (x : X) (p : ℕ) (out : List ℕ) where
  abbrev pub left : Opening → Outcome X
  left o = outcome v (received_as (H.ahead x p) (H.late x p) (λ n. leaves (no n) x out) (λ c y. leaves (yes c) y (over (plain_of_lem c) out)) o)

  pub named : (o : Opening) (c : ℕ) → Takes o c → ((left o).values.uses ≡ true) × ((left o).values.count ≡ c)
  named o c (inl e) = rw e (a.uses c, a.count c)
  named o c (inr e) = rw e (a.uses c, a.count c)

  never-uses : {B : Type 0} (n : ℕ) → (v (no n)).uses ≡ true → B
  never-uses n e = let z : ◌≡◌ {A = ℕ} 0 1 = cc (a.refuses n) in absurd (omega arith)

  pub names : (o : Opening) (c : ℕ) → (left o).values.uses ≡ true → (left o).values.count ≡ c → Takes o c
  names (Err NoCandidate) c u e = never-uses 6 u
  names (Err WrongCode) c u e = never-uses 7 u
  names (Ok (Late c')) c u e = inl (ap (λ (n : ℕ). Ok (Late n)) (sym (a.count c') ∙ e))
  names (Ok (Forward c')) c u e = inr (ap (λ (n : ℕ). Ok (Forward n)) (sym (a.count c') ∙ e))

  took : (c : ℕ) (inner : List ℕ) → plain_of_lem c ≡ inner → (o : Opening) → Takes o c → TakenAs (left o) c inner out
  took c inner q o (inl e) =
      rw e record { uses = a.uses c; count = a.count c; number = a.number c; wrote = a.wrote c ∙ ap length q; hands = ap (λ (l : List ℕ). over l out) q }
  took c inner q o (inr e) =
      rw e record { uses = a.uses c; count = a.count c; number = a.number c; wrote = a.wrote c ∙ ap length q; hands = ap (λ (l : List ℕ). over l out) q }

  pub takes-taken : (c : ℕ) (inner : List ℕ) → plain_of_lem c ≡ inner → (o : Opening) → Takes o c ↔ TakenAs (left o) c inner out
  takes-taken c inner q o = (took c inner q o, λ t. names o c t.uses t.count)

  -- where no COUNT is used: 6 or 7 and nothing else, and context and output are as before
  abbrev pub alone : ℕ → Outcome X
  alone n = record { values = refusal n; context = x; output = out }

  pub refused-alone : ((n : ℕ) → v (no n) ≡ refusal n) → (o : Opening) → ((c : ℕ) → Uses (left o) c → ⊥) → (left o ≡ alone 6) ⊎ (left o ≡ alone 7)
  refused-alone only (Err NoCandidate) n = inl (λ i. record { values = only 6 i; context = x; output = out })
  refused-alone only (Err WrongCode) n = inr (λ i. record { values = only 7 i; context = x; output = out })
  refused-alone only (Ok (Late c)) n = absurd (n c (a.uses c, a.count c))
  refused-alone only (Ok (Forward c)) n = absurd (n c (a.uses c, a.count c))
