-- A test that found nothing bounds the numbers; the order is at most 4, so an array of columns has a size. Assumes nothing.
use Rattle.std.proofs.Common.{rules, ◌≤◌, arith}
use Rattle.matrix.proofs.Ranges.{fits, columns_within}
use Rattle.matrix.proofs.places.Matrix.swap_columns.Goals as goal

pub into_array-requires : goal.into_array-requires
into_array-requires g c = let most : g.row.N ≤ 4 = omega (arith, g.met.Self.Matrix.order, g.met.Self.SquareMatrix.at_most) in fits g.row.N most

pub columns_swapped-requires : goal.columns_swapped-requires
columns_swapped-requires g c =
    let most : g.row.N ≤ 4 = omega (arith, g.met.Self.Matrix.order, g.met.Self.SquareMatrix.at_most) in
    let size = fits g.row.N most in
    let below = columns_within _ _ _ c.in_ok-check_columns.ensures in search rules

pub from_array-requires : goal.from_array-requires
from_array-requires g c =
    let most : g.row.N ≤ 4 = omega (arith, g.met.Self.Matrix.order, g.met.Self.SquareMatrix.at_most) in
    let size = fits g.row.N most in search rules
