-- A check that refused nothing found lengths that fit. Assumes nothing.
use Rattle.bulk.proofs.Checks.{fitting}
use Rattle.bulk.proofs.move_points.Goals as goal

pub move_each-requires : goal.move_each-requires
move_each-requires c = fitting 1 _ _ c.in_ok-check.ensures
