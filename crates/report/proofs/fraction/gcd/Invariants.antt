-- A turn is one of Euclid's steps. Assumes nothing.
use Rattle.report.proofs.Fractions.{Steps}
use Rattle.report.proofs.fraction.gcd.Given as goal

abbrev pub invariant-loop-y : goal.invariant-loop-y
invariant-loop-y l = Steps l.a l.b l.x l.y

abbrev pub decreases-loop-y : goal.decreases-loop-y
decreases-loop-y l = l.y
