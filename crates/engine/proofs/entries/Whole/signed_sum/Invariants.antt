-- The loop's invariant: the sum over the rows passed. Assumes nothing.
use Rattle.std.proofs.Common.{◌≡◌, take}
use Rattle.whole.specs.Claim.{part, table_sum}
use Rattle.engine.specs.Orders.{table}
use Rattle.engine.specs.Whole.{wholes}
use Rattle.engine.proofs.entries.Whole.signed_sum.Given as goal

abbrev pub invariant-loop-order : goal.invariant-loop-order
invariant-loop-order l = l.sum ≡ table_sum (wholes l.self.numbers) (take l.order-index (part l.self.order table))
