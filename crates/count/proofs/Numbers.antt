-- The table holds, by computation.
use mathlib.Core.Path.{refl}
use Rattle.count.specs.Rule.{bit, distance, forward_of, open_at, late_of, former_highest, use_forward, use_round, use_late, resize_of, close_of}
use Rattle.count.specs.Table.{Table, open_to}

pub table : Table
unfolding bit distance forward_of open_at late_of former_highest use_forward use_round use_late resize_of close_of open_to
table =
    record {
      P1 = refl;
      P2 = refl;
      P3 = refl;
      P4 = refl;
      P5 = refl;
      P6 = (refl, refl);
      P7 = (refl, refl, refl, refl);
      P8 = refl;
      P9 = refl;
      P10 = refl;
      P11 = refl;
      P12 = refl;
      P13 = (refl, refl);
      P14 = refl;
    }
