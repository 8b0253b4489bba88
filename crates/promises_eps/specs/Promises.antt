-- All that is promised of the EPS context, in one: of every call, every context, every output.
use Rattle.std.specs.Prelude.{◌≡◌, List, ℕ}
use Rattle.nas_eps.specs.declared.Context.{Context}
use Rattle.nas_core.specs.declared.Direction.{Direction}
use Rattle.nas_eps.specs.Places.{fault_of}
use Rattle.promises_eps.specs.Calls.{Call, open_message, gives}
use Rattle.promises_eps.specs.Words.{Succeeds}
use Rattle.promises_eps.specs.Demand1.{Demand1, Demand1Uses, Demand1Open, Demand1Forms, Demand1Making, Demand1Changes}
use Rattle.promises_eps.specs.Demand2.{Demand2}
use Rattle.promises_eps.specs.Demand3.{Keeps}
use Rattle.promises_eps.specs.Delivery.{Delivery}
use Rattle.promises_eps.specs.Null.{NullHolds}
use Rattle.promises_eps.specs.Skipped.{Skipped}
use Rattle.promises_eps.specs.Kept.{Always}
use Rattle.promises_eps.specs.Isolation.{Apart, Isolation}
use Rattle.promises_eps.specs.Tightness.{OnlyOne, Tightness}

pub record Promises : Type 1 where
  pub demand1 : (k : Call) (x : Context) → Demand1 k x
  pub demand1-uses : (k : Call) (x : Context) → Demand1Uses k x
  pub demand1-open : (x : Context) (d : Direction) (m out : List ℕ) (succeeds : Succeeds (gives (open_message d m out) x)) → Demand1Open x d m out succeeds
  pub demand1-forms : (x : Context) (faultless : fault_of x ≡ 0) → Demand1Forms x faultless
  pub demand1-making : Demand1Making
  pub demand1-changes : (x : Context) (faultless : fault_of x ≡ 0) → Demand1Changes x faultless
  pub demand2 : Demand2
  pub demand3 : Keeps gives
  pub delivery : Delivery
  pub null-integrity : NullHolds
  pub skipped : Skipped
  pub kept : Always
  pub apart : Apart
  pub isolation : Isolation
  pub only_one : OnlyOne
  pub tightness : Tightness
