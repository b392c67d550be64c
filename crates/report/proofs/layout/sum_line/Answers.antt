-- Refusal 2, or whether what is moved comes back. Assumes nothing.
use Rattle.report.proofs.Whole.{zero_line, other_line}
use Rattle.report.proofs.layout.sum_line.Goals as goal

pub returns-then-sum-eq0 : goal.returns-then-sum-eq0
returns-then-sum-eq0 c = zero_line _ c.args.sum c.ranges.sum.sfits c.if-sum-eq0.true c.refusal2.ensures

pub returns-else-sum-eq0 : goal.returns-else-sum-eq0
returns-else-sum-eq0 c = other_line _ c.args.sum c.ranges.sum.sfits c.if-sum-eq0.false _ _ c.magnitude.ensures c.one_bit.ensures c.comes_back.ensures
