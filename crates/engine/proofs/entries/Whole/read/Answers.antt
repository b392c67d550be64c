-- The matrix in the corner has small numbers, and those below its order are the matrix's own. Assumes nothing.
use Rattle.engine.proofs.Outcomes.{numbers_small}
use Rattle.engine.proofs.entries.Whole.read.Goals as goal

pub invariant_of-result-clause-small : goal.invariant_of-result-clause-small
invariant_of-result-clause-small g c = rw c.in_ok-numbers.ensures.1 (numbers_small c.cornered-corner.result c.in_ok-numbers.ensures.0)
