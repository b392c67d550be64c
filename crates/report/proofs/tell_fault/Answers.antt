-- Each text is that of the fault. Assumes nothing.
use Rattle.report.specs.Verdict.{verdict_text}
use Rattle.report.proofs.tell_fault.Goals as goal

pub returns-in-NoOrder : goal.returns-in-NoOrder
unfolding verdict_text
returns-in-NoOrder c = rw c.in-NoOrder.is c.order_expected.ensures

pub returns-in-OtherCount : goal.returns-in-OtherCount
unfolding verdict_text
returns-in-OtherCount c = rw c.in-OtherCount.is c.entries_expected.ensures

pub returns-in-NotWhole : goal.returns-in-NotWhole
unfolding verdict_text
returns-in-NotWhole c = rw c.in-NotWhole.is c.not_whole.ensures
