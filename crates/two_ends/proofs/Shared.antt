-- What the ends of every context share: a seal as an act on one record, and a refusal alone.
use Prim.Native.Nat.{ℕ, ◌+◌}
use mathlib.Core.Path.{◌≡◌, refl, sym, ap, ◌∙◌}
use mathlib.Core.Bool.{true}
use mathlib.Core.Logic.{◌⊎◌, inl, inr}
use mathlib.Core.List.{List, [], ◌∷◌}
use native.Mathlib.Omega.{arith}
use lib.ListN.{get_or}
use Rattle.count.specs.Rule.{use_forward, resize_of, close_of}
use Rattle.count.specs.Run.{State, Act, stay, uses, resize, close, forward, act, used}
use Rattle.nas_core.specs.Leaves.{refusal}
use Rattle.promise.specs.Outcomes.{Outcome, used_by, written}
use Rattle.promise.specs.TwoEnds.{Link, Message}
use Rattle.promise.specs.Ends.{Sends}
use Rattle.promise.proofs.Told.{alone}

unused : (a : Act) (s : State) → used a ≡ [] → (act a s).at.next ≡ s.at.next
unfolding resize_of close_of
unused stay s e = refl
unused (uses w c) s e = let z : ◌≡◌ {A = ℕ} 0 1 = cc in absurd (omega arith)
unused (resize n) s e = refl
unused close s e = refl

-- The sender: a seal that is not refused uses the next COUNT.
module _ {X : Type 0} (L : Link X) (state : X → State) (Good : X → X → Type 0) (Right : X → Message L → Type 0) (z x : X) (s : L.Seal) (a : Act) where
  abbrev o : Outcome X
  o = L.seal s x

  abbrev n : ℕ
  n = (state x).at.next

  pub sends-by : Good z o.context → state o.context ≡ act a (state x) → used_by o.values ≡ used a
      → (o.values.uses ≡ true → (a ≡ uses forward n) × Right z (record { seal = s; count = o.values.count; octets = written o }))
      → Sends L state Good Right z x s
  unfolding use_forward
  sends-by good after counts sent =
      record {
        good = good;
        refused = λ u.
            let none : used_by o.values ≡ [] = rw u refl in
            ap (λ (s : State). s.at.next) after ∙ unused a (state x) (sym counts ∙ none);
        sent = λ u.
            let is = (sent u).0 in
            let one : used_by o.values ≡ o.values.count ∷ [] = rw u refl in
            let e : o.values.count ≡ n = ap (λ (l : List ℕ). get_or l 0 0) (sym one ∙ counts ∙ ap used is) in
            let f : (state o.context).at.next ≡ n + 1 = ap (λ (s : State). s.at.next) (after ∙ ap (λ (a : Act). act a (state x)) is) in
            (omega (arith, e), f ∙ ap (λ (n : ℕ). n + 1) (sym e), (sent u).1);
      }

-- The receiver: a refusal alone.
pub left_alone : {X : Type 0} (o : Outcome X) (x : X) (out : List ℕ) → (o ≡ alone 6 x out) ⊎ (o ≡ alone 7 x out)
    → ((o.values ≡ refusal 6) ⊎ (o.values ≡ refusal 7)) × (o.context ≡ x) × (o.output ≡ out)
left_alone o x out (inl e) = (inl (λ i. (e i).values), (λ i. (e i).context), λ i. (e i).output)
left_alone o x out (inr e) = (inr (λ i. (e i).values), (λ i. (e i).context), λ i. (e i).output)
