-- Its texts, one after another. Assumes nothing.
use Rattle.report.proofs.Writing.{then}
use Rattle.report.specs.Verdict.{sums_text}
use Rattle.report.proofs.totals.sums.Goals as goal

pub returns : goal.returns
unfolding sums_text
returns c = then (then c.labelled.ensures c.labelled-2.ensures) c.labelled-3.ensures
