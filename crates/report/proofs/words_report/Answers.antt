-- How to use the tool, or the report. Assumes nothing.
use Rattle.std.proofs.Common.{sym, ap, ◌∙◌}
use Rattle.report.specs.Report.{told, report_of}
use Rattle.report.proofs.Tells.{tell_matrix, same_fault}
use Rattle.report.proofs.Writing.{named}
use Rattle.report.proofs.words_report.Goals as goal

pub returns-then-asked : goal.returns-then-asked
unfolding report_of
returns-then-asked c = named (rw (sym c.asked.ensures ∙ c.if-asked.true)) c.help.ensures

pub returns-in-Ok : goal.returns-in-Ok
unfolding report_of
returns-in-Ok c = named (rw (sym c.asked.ensures ∙ c.if-asked.false) (tell_matrix c.in-Ok.grid ∙ ap told c.in-Ok.ensures)) c.matrix.ensures

pub returns-in-Err : goal.returns-in-Err
unfolding report_of
returns-in-Err c = named (rw (sym c.asked.ensures ∙ c.if-asked.false) (same_fault c.in-Err.fault ∙ ap told c.in-Err.ensures)) c.tell_fault.ensures
