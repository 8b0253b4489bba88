-- A library call's equation as the performer's.
use mathlib.Core.Path.{◌≡◌, sym, ap, ◌∙◌}
use Prim.Native.Nat.{ℕ}
use Rattle.std.specs.Prelude.{Option}
use mathlib.Core.List.{List}
use Rattle.nas_5gs.specs.Leaves.{Leaves, leaves, LeavesTwo, leaves_two}
use Rattle.nas_5gs.specs.declared.Context.{Context}
use Rattle.nas_5gs.specs.declared.Connection.{Connection}
use Rattle.nas_5gs.specs.OpenAnswer.{OpenAnswer}
use Rattle.nas_5gs.specs.Places.{bearer_no}
use Rattle.handover.specs.Across.{LeavesAcross, leaves_across}
use Rattle.hex_perform.specs.declared.Answer.{Answer}
use Rattle.hex_parse.specs.Lines.{Line}
use Rattle.hex_perform.specs.Perform.{held_of, perform_of}
use Rattle.hex_perform.specs.Answers.{across_answer, writing, writing_two, writing_across}

pub answered : {A : Type 0} (f : A → Answer) (a : A) (r : Answer) (x y : Context) (o : List ℕ) (l : Leaves A)
    → r ≡ f a → y ≡ x → leaves a x o ≡ l → leaves r y o ≡ writing f l
answered f a r x y o l p q e = rw (p, q) (ap (writing f) e)

pub answered-two : {A : Type 0} (f : A → Answer) (a : A) (r : Answer) (x y : Context) (o s : List ℕ) (l : LeavesTwo A)
    → r ≡ f a → y ≡ x → leaves_two a x o s ≡ l → leaves_two r y o s ≡ writing_two f l
answered-two f a r x y o s l p q e = rw (p, q) (ap (writing_two f) e)

pub answered-across : (k : Connection) (a : OpenAnswer) (r : Answer) (x y : Context) (o s : List ℕ) (l : LeavesAcross)
    → r ≡ across_answer (bearer_no k) a → y ≡ x → leaves_across k a x o s ≡ l → leaves_two r y o s ≡ writing_across l
answered-across k a r x y o s l p q e = rw (p, q) (ap writing_across e)

-- what is known of a line's octets, as the definition tells the cases apart
pub held : (l : Line) (x : Context) (o out second : List ℕ) (r : Option ℕ) (left : LeavesTwo Answer) → l.octets ≡ r
    → left ≡ held_of r l x o out second → left ≡ perform_of l x o out second
unfolding perform_of
held l x o out second r left h e = e ∙ sym (ap (λ (q : Option ℕ). held_of q l x o out second) h)
