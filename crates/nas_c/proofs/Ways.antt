-- Whether there is what a number names.
use mathlib.Core.Path.{refl, sym, ◌∙◌}
use Rattle.std.specs.Prelude.{◌≡◌, Bool, true, false, cond, Option, None, Some}
use Rattle.std.proofs.lemmas.Option.{none-some, cond_some}

pub there_is : {A : Type 0} (none : Bool) (x y : A) {w : Option A} → w ≡ cond none None (Some x) → w ≡ Some y → (none ≡ false) × (x ≡ y)
there_is true x y is named = absurd (none-some _ (sym is ∙ named))
there_is false x y is named = (refl, (cond_some true x y (sym is ∙ named)).1)

pub there_is_none : {A : Type 0} (none : Bool) (x : A) {w : Option A} → w ≡ cond none None (Some x) → w ≡ None → none ≡ true
there_is_none true x is named = refl
there_is_none false x is named = absurd (none-some _ (sym named ∙ is))
