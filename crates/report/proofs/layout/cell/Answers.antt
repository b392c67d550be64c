-- The entry itself, or a cofactor over the sum. Assumes nothing.
use Rattle.std.proofs.Common.{rules}
use Rattle.report.proofs.Rows.{matrix_cell, inverse_cell}
use Rattle.report.proofs.Writing.{then, named}
use Rattle.report.proofs.layout.cell.Goals as goal

pub returns-in-Matrix : goal.returns-in-Matrix
returns-in-Matrix c = named (matrix_cell c.args.shown c.args.grid.now c.args.c c.args.r _ c.entry.type_inv c.in-Matrix.is c.entry.ensures) (then c.text.ensures c.whole.ensures)

pub returns-in-Inverse : goal.returns-in-Inverse
returns-in-Inverse c = named (inverse_cell c.args.shown c.args.grid.now c.args.c c.args.r _ c.in-Inverse.sum c.cofactor.type_inv (search rules) c.in-Inverse.is c.cofactor.ensures) (then c.text.ensures c.fraction.ensures)
