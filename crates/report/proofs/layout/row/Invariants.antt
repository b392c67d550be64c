-- A turn writes one cell. Assumes nothing.
use Rattle.std.proofs.Common.{◌++◌}
use Rattle.report.specs.Text.{text, each}
use Rattle.report.specs.Written.{Adds}
use Rattle.report.specs.Shown.{shown_cell}
use Rattle.report.proofs.layout.row.Given as goal

abbrev pub invariant-loop-c : goal.invariant-loop-c
invariant-loop-c l = Adds l.initial.page (each l.c (λ c. text " " ++ shown_cell l.shown l.grid c l.r)) l.page
