-- Its texts, one after another. Assumes nothing.
use Rattle.report.proofs.Writing.{then, named}
use Rattle.report.specs.Report.{entries_expected}
use Rattle.report.proofs.entries_expected.Goals as goal

pub returns : goal.returns
unfolding entries_expected
returns c = named (rw c.size-n.ensures) (then (then c.text.ensures c.decimal.ensures) c.text-2.ensures)
