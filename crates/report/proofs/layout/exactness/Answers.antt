-- The sentence of the test. Assumes nothing.
use Rattle.report.specs.Report.{exactness}
use Rattle.report.proofs.layout.exactness.Goals as goal

pub returns-then-exact : goal.returns-then-exact
unfolding exactness
returns-then-exact c = rw c.if-exact.true c.text.ensures

pub returns-else-exact : goal.returns-else-exact
unfolding exactness
returns-else-exact c = rw c.if-exact.false c.text-else-exact.ensures
