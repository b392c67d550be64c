-- A test that found nothing bounds the numbers; the order is at most 4, so an array of columns has a size. Assumes nothing.
use Rattle.std.proofs.Common.{rules, ◌≤◌, arith}
use Rattle.matrix.proofs.Ranges.{fits, elements_within}
use Rattle.matrix.proofs.places.Matrix.swap_elements.Goals as goal

pub into_array-requires : goal.into_array-requires
into_array-requires g c = let most : g.row.N ≤ 4 = omega (arith, g.met.Self.Matrix.order, g.met.Self.SquareMatrix.at_most) in fits g.row.N most

pub elements_swapped-requires : goal.elements_swapped-requires
elements_swapped-requires g c =
    let most : g.row.N ≤ 4 = omega (arith, g.met.Self.Matrix.order, g.met.Self.SquareMatrix.at_most) in
    let size = fits g.row.N most in
    let below = elements_within _ _ _ _ _ c.in_ok-check_elements.ensures in search rules

pub from_array-requires : goal.from_array-requires
from_array-requires g c =
    let most : g.row.N ≤ 4 = omega (arith, g.met.Self.Matrix.order, g.met.Self.SquareMatrix.at_most) in
    let size = fits g.row.N most in search rules
