-- For hosts that slice: what a call says that it wrote lies within the output that was lent.
use Prim.Native.Nat.{ℕ, ◌≤◌}
use mathlib.Core.Path.{◌≡◌, sym, ap, subst}
use mathlib.Core.List.{List}
use lib.ListN.{length}
use Rattle.std.specs.Prelude.{Ok}
use Rattle.nas_5gs.specs.declared.Context.{Context}
use Rattle.nas_core.specs.declared.Direction.{Direction}
use Rattle.nas_5gs.specs.declared.Connection.{Connection}
use Rattle.nas_core.specs.UseAnswer.{Used}
use Rattle.nas_5gs.specs.Leaves.{Leaves, leaves, use_values}
use Rattle.nas_5gs.specs.Seal.{seal_of}
use Rattle.promises.specs.Calls.{Call, seal5gs, Outcome, outcome, lent}
use Rattle.promises.specs.Tightness.{AnswerOf, values_of, Meets}
use Rattle.promises.proofs.Demand1.{demand1}

pub wrote-within : (k : Call) (x : Context) (l : Leaves (AnswerOf k)) → Meets k x l → (outcome (values_of k) l).values.wrote ≤ length (lent k)
wrote-within k x l meets = subst (λ (o : Outcome). o.values.wrote ≤ length (lent k)) (sym meets) (demand1 k x).within

-- a seal, from its own contract
pub seal-within : (x y : Context) (t : ℕ) (d : Direction) (k : Connection) (inner out o : List ℕ) (c w : ℕ)
    → leaves (Used c w) y o ≡ seal_of x t d k inner out → w ≤ length out
seal-within x y t d k inner out o c w e = wrote-within (seal5gs t d k inner out) x (leaves (Ok (record { count = c; wrote = w })) y o) (ap (outcome use_values) e)
