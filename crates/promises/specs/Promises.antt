-- All that is promised, in one: of every call, every context, every output.
use Rattle.std.specs.Prelude.{◌≡◌}
use Rattle.nas_5gs.specs.declared.Context.{Context}
use Rattle.nas_5gs.specs.Places.{fault_of}
use Rattle.promises.specs.Calls.{Call, gives}
use Rattle.promises.specs.Demand1.{Demand1, Demand1Uses, Demand1Open, Demand1Making, Demand1Changes}
use Rattle.promises.specs.Demand2.{Demand2}
use Rattle.promises.specs.Demand3.{Keeps}
use Rattle.promises.specs.Delivery.{Delivery}
use Rattle.promises.specs.Null.{NullHolds}
use Rattle.promises.specs.Skipped.{Skipped}
use Rattle.promises.specs.Kept.{Always}
use Rattle.promises.specs.Isolation.{Apart, Isolation}
use Rattle.promises.specs.Tightness.{OnlyOne, Tightness}

pub record Promises : Type 1 where
  pub demand1 : (k : Call) (x : Context) → Demand1 k x
  pub demand1-uses : (k : Call) (x : Context) → Demand1Uses k x
  pub demand1-open : (x : Context) → Demand1Open x
  pub demand1-making : Demand1Making
  pub demand1-changes : (x : Context) (faultless : fault_of x ≡ 0) → Demand1Changes x faultless
  pub demand2 : Demand2
  pub demand3 : Keeps gives
  pub delivery : Delivery
  pub null-integrity : NullHolds
  pub skipped : Skipped
  pub kept : Always
  pub apart : Apart
  pub isolation : Isolation
  pub only_one : OnlyOne
  pub tightness : Tightness
