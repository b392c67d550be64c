-- The same bytes. Assumes nothing.
use Rattle.std.proofs.Common.{◌∙◌}
use Rattle.report.proofs.Reading.{same_as}
use Rattle.report.proofs.help.is_help.Goals as goal

pub returns : goal.returns
returns c = c.eq.ensures ∙ same_as c.args.word.now c.as_slice.result.now _ c.as_slice.ensures
