-- A turn writes one cell. Assumes nothing.
use Rattle.std.proofs.Common.{◌≡◌, ◌++◌, arith}
use Rattle.report.specs.Text.{text}
use Rattle.report.specs.Grid.{order_in}
use Rattle.report.specs.Shown.{shown_cell}
use Rattle.report.proofs.Rows.{one_more, row_text}
use Rattle.report.proofs.Writing.{then, named}
use Rattle.report.proofs.layout.row.Goals as goal

pub loop-c-preserved : goal.loop-c-preserved
loop-c-preserved c = one_more c.loop-c.c (λ d. text " " ++ shown_cell c.args.shown c.args.grid.now d c.args.r) c.loop-c.invariant c.cell.ensures

pub returns : goal.returns
returns c =
    let all : c.loop-c.c ≡ order_in c.args.grid.now = omega (arith, c.loop-c-test.false, c.loop-c.auto.c-end, c.size-c-end.ensures) in
    named (row_text c.args.shown c.args.grid.now c.args.r) (then (rw all at c.loop-c.invariant) c.text.ensures)
