-- By the fault. Assumes nothing.
use Rattle.report.specs.Verdict.{verdict_in}
use Rattle.report.proofs.fault_verdict.Goals as goal

pub returns-in-NoOrder : goal.returns-in-NoOrder
unfolding verdict_in
returns-in-NoOrder c = rw c.in-NoOrder.is

pub returns-in-OtherCount : goal.returns-in-OtherCount
unfolding verdict_in
returns-in-OtherCount c = rw c.in-OtherCount.is

pub returns-in-NotWhole : goal.returns-in-NotWhole
unfolding verdict_in
returns-in-NotWhole c = rw c.in-NotWhole.is
