-- A turn writes one row. Assumes nothing.
use Rattle.std.proofs.Common.{◌≡◌, arith}
use Rattle.report.specs.Grid.{order_in}
use Rattle.report.specs.Shown.{shown_row}
use Rattle.report.proofs.Rows.{one_more, rows_text}
use Rattle.report.proofs.Writing.{named}
use Rattle.report.proofs.layout.rows.Goals as goal

pub loop-r-preserved : goal.loop-r-preserved
loop-r-preserved c = one_more c.loop-r.r (shown_row c.args.shown c.args.grid.now) c.loop-r.invariant c.row.ensures

pub returns : goal.returns
returns c =
    let all : c.loop-r.r ≡ order_in c.args.grid.now = omega (arith, c.loop-r-test.false, c.loop-r.auto.r-end, c.size-r-end.ensures) in
    named (rows_text c.args.shown c.args.grid.now) (rw all at c.loop-r.invariant)
