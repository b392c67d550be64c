-- Each arm asks the engine at its order. Assumes nothing.
use Rattle.std.proofs.Common.{arith, ap}
use Rattle.report.specs.Grid.{size}
use Rattle.report.proofs.Asking.{as_floats, arm_sum}
use Rattle.report.proofs.ask.signed_sum.Goals as goal

pub returns-in-Two : goal.returns-in-Two
returns-in-Two c = arm_sum c.args.grid.now.small 2 (omega arith) (ap size c.in-Two.is) (rw (c.from_array.ensures, c.array.ensures) (as_floats 2 _)) c.number.type_inv _ c.number.ensures c.signed_sum.ensures

pub returns-in-Three : goal.returns-in-Three
returns-in-Three c = arm_sum c.args.grid.now.small 3 (omega arith) (ap size c.in-Three.is) (rw (c.from_array-in-Three.ensures, c.array-in-Three.ensures) (as_floats 3 _)) c.number-in-Three.type_inv _ c.number-in-Three.ensures c.signed_sum-in-Three.ensures

pub returns-in-Four : goal.returns-in-Four
returns-in-Four c = arm_sum c.args.grid.now.small 4 (omega arith) (ap size c.in-Four.is) (rw (c.from_array-in-Four.ensures, c.array-in-Four.ensures) (as_floats 4 _)) c.number-in-Four.type_inv _ c.number-in-Four.ensures c.signed_sum-in-Four.ensures
