-- Both are divided by what they have in common. Assumes nothing.
use Rattle.report.proofs.Fractions.{over_common, over_nothing}
use Rattle.report.proofs.fraction.reduced.Goals as goal

pub returns-then-common-eq0 : goal.returns-then-common-eq0
returns-then-common-eq0 c = over_nothing _ _ _ c.gcd-common.ensures c.if-common-eq0.true

pub returns : goal.returns
returns c = over_common _ _ _ c.gcd-common.ensures
