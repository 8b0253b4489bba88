-- The promises hold.
use Rattle.promises.specs.Promises.{Promises}
use Rattle.promises.proofs.Demand1.{demand1, demand1-uses, demand1-open, demand1-making, demand1-changes}
use Rattle.promises.proofs.Accepting.{demand2}
use Rattle.promises.proofs.Demand3.{keeps}
use Rattle.promises.proofs.Delivery.{delivery}
use Rattle.promises.proofs.Null.{null-holds}
use Rattle.promises.proofs.Skipped.{skipped}
use Rattle.promises.proofs.Kept.{always}
use Rattle.promises.proofs.Isolation.{apart, isolation}
use Rattle.promises.proofs.Tightness.{only_one, tightness}

pub promises : Promises
promises =
    record {
      demand1 = demand1;
      demand1-uses = λ k x. demand1-uses x k;
      demand1-open = demand1-open;
      demand1-making = demand1-making;
      demand1-changes = demand1-changes;
      demand2 = demand2;
      demand3 = keeps;
      delivery = delivery;
      null-integrity = null-holds;
      skipped = skipped;
      kept = always;
      apart = apart;
      isolation = isolation;
      only_one = only_one;
      tightness = tightness;
    }
