-- Each arm asks the engine at its order. Assumes nothing.
use Rattle.std.proofs.Common.{arith, ap}
use Rattle.report.specs.Grid.{size}
use Rattle.report.proofs.Asking.{as_floats, arm_cofactor}
use Rattle.report.proofs.ask.cofactor.Goals as goal

pub returns-in-Two : goal.returns-in-Two
returns-in-Two c = arm_cofactor c.args.grid.now.small 2 (omega arith) (ap size c.in-Two.is) (rw (c.from_array.ensures, c.array.ensures) (as_floats 2 _)) c.number.type_inv _ c.number.ensures _ _ c.requires.0 c.requires.1 c.cofactor.ensures

pub returns-in-Three : goal.returns-in-Three
returns-in-Three c = arm_cofactor c.args.grid.now.small 3 (omega arith) (ap size c.in-Three.is) (rw (c.from_array-in-Three.ensures, c.array-in-Three.ensures) (as_floats 3 _)) c.number-in-Three.type_inv _ c.number-in-Three.ensures _ _ c.requires.0 c.requires.1 c.cofactor-in-Three.ensures

pub returns-in-Four : goal.returns-in-Four
returns-in-Four c = arm_cofactor c.args.grid.now.small 4 (omega arith) (ap size c.in-Four.is) (rw (c.from_array-in-Four.ensures, c.array-in-Four.ensures) (as_floats 4 _)) c.number-in-Four.type_inv _ c.number-in-Four.ensures _ _ c.requires.0 c.requires.1 c.cofactor-in-Four.ensures
