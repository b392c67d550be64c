-- The text, and then the number. Assumes nothing.
use Rattle.report.proofs.Writing.{then}
use Rattle.report.proofs.totals.labelled.Goals as goal

pub returns : goal.returns
returns c = then c.text.ensures c.decimal.ensures
