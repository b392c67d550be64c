-- Each column before the turn's one has its rows exchanged, each other one stands as it was. Assumes nothing.
use Rattle.std.proofs.Common.{◌≡◌, take, drop, ◌++◌, map, length}
use Rattle.std.specs.Float.{nan}
use Rattle.matrix.specs.Places.{exchange}
use Rattle.matrix.proofs.places.rows_swapped.Given as goal

abbrev pub invariant-loop-column : goal.invariant-loop-column
invariant-loop-column g l =
    (length l.fn.m ≡ g.row.N)
    × (length l.column-items ≡ g.row.N)
    × (l.column-items ≡ map (λ c. exchange nan l.a l.b c) (take l.column-index l.fn.m) ++ drop l.column-index l.fn.m)
