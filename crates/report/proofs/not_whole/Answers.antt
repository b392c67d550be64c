-- Its texts, one after another. Assumes nothing.
use Rattle.report.proofs.Writing.{then, named}
use Rattle.report.specs.Report.{refusal6}
use Rattle.report.proofs.not_whole.Goals as goal

pub returns : goal.returns
unfolding refusal6
returns c = named (rw c.size-n.ensures) (then (then (then (then c.text.ensures c.decimal.ensures) c.text-2.ensures) c.decimal-2.ensures) c.text-3.ensures)
