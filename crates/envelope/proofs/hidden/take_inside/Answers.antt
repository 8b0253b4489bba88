use mathlib.Core.Path.{◌≡◌, sym, ◌∙◌}
use mathlib.Core.Bool.{true, false}
use mathlib.Core.List.{List, ◌++◌}
use Prim.Native.Nat.{ℕ}
use lib.ListN.{length, drop}
use lib.Seq.{length-take-le}
use Rattle.initial.specs.Inside.{is_inside, of_type}
use Rattle.nas_core.specs.Leaves.{over}
use Rattle.nas_core.proofs.Keys.{payload-length}
use Rattle.std.specs.Prelude.{Ok, Err}
use Rattle.refusals.specs.declared.Refusal.TheVariants.{Container}
use Rattle.envelope.specs.Initial.{beside, told}
use Rattle.envelope.proofs.Insides.{short}
use Rattle.nas_core.specs.Keyed.{payload}
use native.Mathlib.Omega.{arith}
use Rattle.envelope.proofs.hidden.take_inside.Goals.{else-value-ge3-via-then-value-ge3+else-has_type, else-value-ge3-via-else-value-ge3}
use Rattle.envelope.proofs.hidden.take_inside.Goals as goal

refused : (p q out : List ℕ) → is_inside p q ≡ false → (Err Container ≡ told (of_type p q)) × (out ≡ over (beside (of_type p q)) out)
refused p q out e = (simp e, simp e)

handed : (p q ys out : List ℕ) (n : ℕ) → is_inside p q ≡ true → n ≡ length q → ys ≡ q
    → (Ok n ≡ told (of_type p q)) × (ys ++ drop n out ≡ over (beside (of_type p q)) out)
handed p q ys out n e l y = (simp (e, l), simp (e, l, y))

pub slice_bounds-fill-end-then-has_type : goal.slice_bounds-fill-end-then-has_type
slice_bounds-fill-end-then-has_type c =
    sym (length-take-le _ _ c.requires.1)

pub fill-requires : goal.fill-requires
fill-requires c =
    sym (length-take-le _ _ c.requires.1)

pub returns-then-has_type : goal.returns-then-has_type
returns-then-has_type c =
    let h = handed _ _ _ c.args.second.now _ (sym c.has_type.ensures ∙ c.if-has_type.true)
    (sym (payload-length c.args.core c.args.count c.args.bearer 0 c.args.value.now true))
    c.fill.ensures in
    record { answer = h.0; wrote = h.1 }

pub returns : goal.returns
returns c =
    let a = c.args in
    let no : is_inside a.outer.now (payload a.core true a.count a.bearer 0 a.value.now) ≡ false = elim c.else-value-ge3.branch [
      | else-value-ge3-via-then-value-ge3+else-has_type w ↦ sym w.has_type.ensures ∙ w.if-has_type.false
      | else-value-ge3-via-else-value-ge3 w ↦ short a.core a.count a.bearer a.outer.now a.value.now c.requires.0 (omega (arith, w.if-value-ge3.false))
    ] in
    let h = refused _ _ a.second.now no in
    record { answer = h.0; wrote = h.1 }
