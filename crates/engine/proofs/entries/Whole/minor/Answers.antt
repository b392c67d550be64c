-- What is left are numbers of the matrix, so they are small. Assumes nothing.
use Rattle.std.proofs.Common.{[], pos}
use Rattle.engine.proofs.Minors.{kept_small}
use Rattle.engine.proofs.entries.Whole.minor.Goals as goal

pub invariant_of-result-clause-small : goal.invariant_of-result-clause-small
invariant_of-result-clause-small c =
    let s = c.args.self.now in
    kept_small s.numbers c.without-kept.result c.args.c c.args.r s.small (c.without-kept.ensures []) (c.without.ensures (pos 0)) (c.without-2.ensures (pos 0)) (c.without-3.ensures (pos 0)) (c.without-4.ensures (pos 0))
