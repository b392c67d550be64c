-- The next place is within the line. Assumes nothing.
use Rattle.std.proofs.Common.{◌≤◌, length}
use Rattle.comesback.proofs.arguments.join.Given as goal

abbrev pub invariant-loop-i : goal.invariant-loop-i
invariant-loop-i g l = l.at ≤ length l.line
