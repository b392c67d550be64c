-- The loop's invariant: the product of the rows passed. Assumes nothing.
use Rattle.std.proofs.Common.{◌≡◌, get_or}
use Rattle.whole.specs.Sum.{product as whole-product}
use Rattle.engine.specs.Whole.{wholes}
use Rattle.engine.proofs.entries.Whole.down_rows.Given as goal

abbrev pub invariant-loop-r : goal.invariant-loop-r
invariant-loop-r l = l.product ≡ whole-product l.r (λ s. wholes l.self.numbers (get_or l.columns s 0) s)
