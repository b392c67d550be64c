-- By what the line holds. Assumes nothing.
use Rattle.std.proofs.Common.{ap, ◌∙◌}
use Rattle.engine.proofs.Signed.{back}
use Rattle.report.specs.Verdict.{sum_verdict, verdict_in}
use Rattle.report.proofs.Tells.{kind_matrix}
use Rattle.report.proofs.verdict_of.Goals as goal

pub returns-in-Ok : goal.returns-in-Ok
returns-in-Ok c = c.sum_verdict.ensures ∙ ap sum_verdict (back c.signed_sum.result c.signed_sum.type_inv ∙ c.signed_sum.ensures) ∙ kind_matrix c.in-Ok.grid ∙ ap verdict_in c.in-Ok.ensures
