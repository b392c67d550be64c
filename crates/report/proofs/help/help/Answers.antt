-- Its texts, one after another. Assumes nothing.
use Rattle.report.proofs.Writing.{then}
use Rattle.report.specs.Report.{help}
use Rattle.report.proofs.help.help.Goals as goal

pub returns : goal.returns
unfolding help
returns c = then (then (then (then c.text.ensures c.text-2.ensures) c.text-3.ensures) c.text-4.ensures) c.text-5.ensures
