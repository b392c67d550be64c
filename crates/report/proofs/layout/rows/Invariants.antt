-- A turn writes one row. Assumes nothing.
use Rattle.report.specs.Text.{each}
use Rattle.report.specs.Written.{Adds}
use Rattle.report.specs.Shown.{shown_row}
use Rattle.report.proofs.layout.rows.Given as goal

abbrev pub invariant-loop-r : goal.invariant-loop-r
invariant-loop-r l = Adds l.initial.page (each l.r (shown_row l.shown l.grid)) l.page
