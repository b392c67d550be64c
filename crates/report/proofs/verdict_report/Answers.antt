-- By what the line holds. Assumes nothing.
use Rattle.std.proofs.Common.{ap, ◌∙◌}
use Rattle.engine.proofs.Signed.{back}
use Rattle.report.specs.Grid.{size}
use Rattle.report.specs.Verdict.{sum_line, verdict_text}
use Rattle.report.proofs.Tells.{tell_line}
use Rattle.report.proofs.Writing.{named}
use Rattle.report.proofs.verdict_report.Goals as goal

pub returns-in-Ok : goal.returns-in-Ok
returns-in-Ok c = named (ap (sum_line (size c.in-Ok.grid.order)) (back c.signed_sum.result c.signed_sum.type_inv ∙ c.signed_sum.ensures) ∙ tell_line c.in-Ok.grid ∙ ap verdict_text c.in-Ok.ensures) c.sum_line.ensures
