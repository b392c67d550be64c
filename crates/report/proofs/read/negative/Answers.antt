-- The first byte decides. Assumes nothing.
use Rattle.report.proofs.Reading.{sign_tested}
use Rattle.report.proofs.read.negative.Goals as goal

pub returns : goal.returns
returns c = sign_tested _ _ c.starts_with.ensures.value
