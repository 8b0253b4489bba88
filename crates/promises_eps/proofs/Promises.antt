-- The promises hold.
use Rattle.promises_eps.specs.Promises.{Promises}
use Rattle.promises_eps.proofs.Demand1.{demand1, demand1-uses, demand1-open, demand1-forms, demand1-making, demand1-changes}
use Rattle.promises_eps.proofs.Demand2.{demand2}
use Rattle.promises_eps.proofs.Demand3.{keeps}
use Rattle.promises_eps.proofs.Delivery.{delivery}
use Rattle.promises_eps.proofs.Null.{null-holds}
use Rattle.promises_eps.proofs.Skipped.{skipped}
use Rattle.promises_eps.proofs.Kept.{always}
use Rattle.promises_eps.proofs.Isolation.{apart, isolation}
use Rattle.promises_eps.proofs.Tightness.{only_one, tightness}

pub promises : Promises
promises =
    record {
      demand1 = demand1;
      demand1-uses = λ k x. demand1-uses x k;
      demand1-open = demand1-open;
      demand1-forms = demand1-forms;
      demand1-making = demand1-making;
      demand1-changes = demand1-changes;
      demand2 = demand2;
      demand3 = keeps;
      delivery = delivery;
      null-integrity = null-holds;
      skipped = skipped;
      kept = always;
      apart = apart;
      isolation = isolation;
      only_one = only_one;
      tightness = tightness;
    }
