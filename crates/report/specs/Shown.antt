-- What the cells of a report show, as the code holds it: the matrix, or its inverse.
-- Assumes nothing.
use Rattle.std.specs.Prelude.{ℕ, true, false, pos}
use Rattle.report.specs.declared.grid.Grid.{Grid}
use Rattle.report.specs.declared.layout.Shown.{Shown}
use Rattle.report.specs.declared.layout.Shown.TheVariants as shown
use Rattle.report.specs.Text.{Bytes}
use Rattle.report.specs.Grid.{order_in, matrix_in}
use Rattle.report.specs.Report.{cell, row_of, rows_of}

-- a cell: an entry of the matrix, which no sum is needed for, or of its inverse
abbrev pub shown_cell : Shown → Grid → ℕ → ℕ → Bytes
shown_cell shown.Matrix g c r = cell false (order_in g) (matrix_in g) (pos 0) c r
shown_cell (shown.Inverse s) g c r = cell true (order_in g) (matrix_in g) s c r

-- a row
abbrev pub shown_row : Shown → Grid → ℕ → Bytes
shown_row shown.Matrix g r = row_of false (order_in g) (matrix_in g) (pos 0) r
shown_row (shown.Inverse s) g r = row_of true (order_in g) (matrix_in g) s r

-- every row
abbrev pub shown_rows : Shown → Grid → Bytes
shown_rows shown.Matrix g = rows_of false (order_in g) (matrix_in g) (pos 0)
shown_rows (shown.Inverse s) g = rows_of true (order_in g) (matrix_in g) s
