-- A turn is one of Euclid's steps. Assumes nothing.
use Rattle.std.proofs.Common.{rules}
use Rattle.report.proofs.Fractions.{steps_turn, steps_end}
use Rattle.report.proofs.fraction.gcd.Goals as goal

pub loop-y-preserved : goal.loop-y-preserved
loop-y-preserved c = search (steps_turn, rules)

pub returns : goal.returns
returns c = search (steps_end, rules)
