-- The first byte is the sign, or there is none. Assumes nothing.
use Rattle.std.proofs.Common.{refl}
use Rattle.report.proofs.Reading.{sign_taken}
use Rattle.report.proofs.read.digits.Goals as goal

pub returns : goal.returns
returns c = sign_taken _ c.args.word _ _ refl c.strip_prefix.ensures.cases c.unwrap_or.ensures
