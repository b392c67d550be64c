-- Where the report says that what a matrix moves comes back, it does: demand 3 at each order, of the floats of the list's whole numbers.
-- Assumes nothing.
use Rattle.std.proofs.Common.{◌<◌, lit<}
use Rattle.matrix.specs.Records.{of_array2, of_array3, of_array4}
use Rattle.engine.specs.Demand.{Port, port2, port3, port4, Demand}
use Rattle.engine.proofs.Numbers.{where_held}
use Rattle.engine.proofs.Two.{at_order2}
use Rattle.engine.proofs.Three.{at_order3}
use Rattle.engine.proofs.Four.{at_order4}
use Rattle.report.specs.Entries.{columns, array_of}
use Rattle.report.specs.Held.{vectors_of, HeldAt, ComesBackHeld}
use Rattle.report.proofs.Asking.{floats_hold, as_floats}

-- demand 3 speaks of them
held_at : (p : Port) → Demand p 1024 (vectors_of p.order) → 0 < p.order → HeldAt p
held_at p d some zs small bit m floats =
    where_held p 1024 (vectors_of p.order) d some (lit< tt) m (columns p.order zs) (floats_hold p.order zs (p.entries m) small floats) bit

-- at every order
pub comes_back_held : ComesBackHeld
comes_back_held = record {
  held2 = held_at port2 at_order2 (lit< tt);
  held3 = held_at port3 at_order3 (lit< tt);
  held4 = held_at port4 at_order4 (lit< tt);
  some2 = λ zs. (of_array2 (array_of 2 zs), as_floats 2 zs);
  some3 = λ zs. (of_array3 (array_of 3 zs), as_floats 3 zs);
  some4 = λ zs. (of_array4 (array_of 4 zs), as_floats 4 zs);
}
