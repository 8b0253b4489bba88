-- A library call's equation as the performer's; the texts of a line.
use Prim.Native.Nat.{ℕ}
use mathlib.Core.Path.{◌≡◌, sym, ap, ◌∙◌}
use mathlib.Core.Bool.{Bool}
use Rattle.std.specs.Prelude.{Option}
use mathlib.Core.List.{List, [], ◌++◌}
use lib.ListN.{take, drop}
use Rattle.nas_eps.specs.Leaves.{Leaves, leaves}
use Rattle.nas_eps.specs.declared.Context.{Context}
use Rattle.hex_print.specs.Words.{Puts}
use Rattle.hex_print.specs.Lines.{end_text}
use Rattle.hex_eps.specs.declared.Answer.{Answer}
use Rattle.hex_eps_parse.specs.Lines.{Line}
use Rattle.hex_eps.specs.Perform.{held_of, perform_of}
use Rattle.hex_eps.specs.Answers.{writing}
use Rattle.hex_eps.specs.Lines.{wrote_of, answer_text, line_text}

pub answered : {A : Type 0} (f : A → Answer) (a : A) (r : Answer) (x y : Context) (o : List ℕ) (l : Leaves A)
    → r ≡ f a → y ≡ x → leaves a x o ≡ l → leaves r y o ≡ writing f l
answered f a r x y o l p q e = rw (p, q) (ap (writing f) e)

-- what is known of a line's octets, as the definition tells the cases apart
pub held : (l : Line) (x : Context) (o out : List ℕ) (r : Option ℕ) (left : Leaves Answer) → l.octets ≡ r
    → left ≡ held_of r l x o out → left ≡ perform_of l x o out
unfolding perform_of
held l x o out r left h e = e ∙ sym (ap (λ (q : Option ℕ). held_of q l x o out) h)

module _ {l m : List ℕ} {at r : ℕ} (a : Answer) (x : Context) (out : List ℕ) (changed : Bool) where
  pub lined : (f t : List ℕ) (n : ℕ) → n ≡ wrote_of a → f ≡ take n out → t ≡ drop n out
      → Puts l at (answer_text a x f ++ end_text t [] changed) m r
      → Puts l at (line_text a x out changed) m r
  unfolding line_text
  lined f t n e p s h =
      let front : f ≡ take (wrote_of a) out = p ∙ ap (λ (i : ℕ). take i out) e in
      let rest : t ≡ drop (wrote_of a) out = s ∙ ap (λ (i : ℕ). drop i out) e in
      rw (← front, ← rest) h
