-- The text stands at the start of the output. Assumes nothing.
use Rattle.std.proofs.Common.{rules}
use Rattle.report.proofs.Lines.{from_new}
use Rattle.report.proofs.totals_line.Goals as goal

pub returns-clause-writes : goal.returns-clause-writes
returns-clause-writes c = let w = from_new c.new-page.ensures.same c.new-page.ensures.start c.line.ensures in search (w, rules)
