-- Its texts, one after another. Assumes nothing.
use Rattle.report.proofs.Writing.{then}
use Rattle.report.specs.Verdict.{totals_text}
use Rattle.report.proofs.totals.line.Goals as goal

pub returns : goal.returns
unfolding totals_text
returns c = then (then (then (then c.sums.ensures c.labelled.ensures) c.labelled-2.ensures) c.labelled-3.ensures) c.text.ensures
