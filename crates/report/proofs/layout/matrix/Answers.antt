-- Its texts, one after another. Assumes nothing.
use Rattle.std.proofs.Common.{ap}
use Rattle.report.specs.Grid.{order_in, matrix_in}
use Rattle.report.specs.Report.{sum_report}
use Rattle.report.proofs.Signs.{held}
use Rattle.report.proofs.Whole.{zero_text, inverse_follows, same_rows}
use Rattle.report.proofs.Writing.{then, named}
use Rattle.report.proofs.layout.matrix.Goals as goal

pub returns-then-sum-eq0 : goal.returns-then-sum-eq0
returns-then-sum-eq0 c =
    let g = c.args.grid.now in
    let s = c.signed_sum-sum in
    named (ap (sum_report (order_in g) (matrix_in g)) s.ensures)
    (zero_text (order_in g) (matrix_in g) s.result s.type_inv c.if-sum-eq0.true
    (then (then (then (then (then c.text.ensures (named (same_rows (order_in g) (matrix_in g) (held s.result)) c.rows.ensures)) c.text-2.ensures) c.whole.ensures) c.text-3.ensures) c.refusal2.ensures))

pub returns-else-sum-eq0 : goal.returns-else-sum-eq0
returns-else-sum-eq0 c =
    let g = c.args.grid.now in
    let s = c.signed_sum-sum in
    named (ap (sum_report (order_in g) (matrix_in g)) s.ensures)
    (inverse_follows (order_in g) (matrix_in g) s.result s.type_inv c.if-sum-eq0.false
    (then (then (then (then (then c.text.ensures (named (same_rows (order_in g) (matrix_in g) (held s.result)) c.rows.ensures)) c.text-2.ensures) c.whole.ensures) c.text-3.ensures) c.inverse.ensures))
