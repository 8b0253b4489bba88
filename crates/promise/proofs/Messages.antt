-- Messages opened after any calls.
use Rattle.std.specs.Prelude.{None, Ok}
use Prim.Native.Nat.{ℕ, ◌%◌, ◌^◌}
use mathlib.Core.Path.{◌≡◌, sym, subst}
use mathlib.Core.Bool.{Bool, true, false}
use mathlib.Core.Logic.{inr, ⊎_elim, ◌↔◌}
use Rattle.count.specs.declared.Taken.TheVariants.{Late, Forward}
use Rattle.count.specs.Rule.{forward_of, forward_only}
use Rattle.count.specs.Run.{State}
use Rattle.count.specs.Facts.{Takes}
use Rattle.count.specs.Machine.{view}
use Rattle.count.proofs.Candidates.{never}
use Rattle.count.proofs.Openings.{answers}
use Rattle.promise.specs.Messages.{finds_in, OpensBy}
use Rattle.promise.proofs.Kept.{kept}

pub through : {A B C : Type 0} → A ↔ B → B ↔ C → A ↔ C
through f g = ((λ a. g.0 (f.0 a)), λ c. f.1 (g.1 c))

pub back : {A B : Type 0} → A ↔ B → B ↔ A
back f = (f.1, f.0)

-- without a late half nothing is taken late
only-forward : (k : ℕ) (fits : ℕ → Bool) (s : State) (o c : ℕ) → Takes (forward_only k false fits s.at o) c ↔ (forward_only k false fits s.at o ≡ Ok (Forward c))
unfolding forward_only
only-forward k fits s o c =
    (⊎_elim (λ e. never ((answers fits None (forward_of k false s.at o) (Ok (Late c))).0 e).0) (λ e. e), inr)

pub opens : OpensBy
opens X C T W Good K keeping goes x ks m c begins ready =
    let y = W.after x ks in
    let p = K.place m in
    let h = kept X C T W Good keeping p x begins ks in
    let o = goes y m c h.0 ready in
    let by : (b : Bool) → K.late ≡ b → Takes (finds_in b K.bits (K.fits m c) (view T p y) c) c ↔ K.Taken y m c =
    λ b e. subst (λ (b : Bool). Takes (finds_in b K.bits (K.fits m c) (view T p y) c) c ↔ K.Taken y m c) e o.taken in
    record {
      exactly = λ e. through (back (by true e)) (h.1.taken K.bits (K.fits m c) c (o.small e) o.count o.own);
      exception = λ e c' st q f.
          (o.names c').0
          (subst (λ (b : Bool). Takes (finds_in b K.bits (K.fits m c) (view T p y) c) c') (sym e)
          (h.1.taken-late K.bits (K.fits m c) c c' (o.small e) st q f));
      forward-only = λ e.
          through (back (by false e))
          (through (only-forward K.bits (K.fits m c) (view T p y) (c % 2 ^ K.bits) c)
          (h.1.taken-forward K.bits (K.fits m c) c o.count o.own));
    }
