-- Its texts, one after another. Assumes nothing.
use Rattle.report.specs.Grid.{order_in, matrix_in}
use Rattle.report.proofs.Whole.{inverse_text}
use Rattle.report.proofs.Writing.{then}
use Rattle.report.proofs.layout.inverse.Goals as goal

pub returns : goal.returns
returns c =
    let g = c.args.grid.now in
    inverse_text (order_in g) (matrix_in g) c.args.sum c.ranges.sum.sfits _ _ c.magnitude.ensures c.one_bit-exact.ensures
    (then (then c.exactness.ensures c.rows.ensures) c.comes_back.ensures)
