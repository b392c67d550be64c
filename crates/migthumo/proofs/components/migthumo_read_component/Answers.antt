-- The two lengths, then what was read. Assumes nothing.
use Rattle.std.proofs.Common.{rules, refl}
use Rattle.migthumo.proofs.TwoOutputs.{head_wrong, matrix_wrong, faulty, found}
use Rattle.migthumo.proofs.components.migthumo_read_component.Goals as goal

pub returns-then-head-ne3 : goal.returns-then-head-ne3
returns-then-head-ne3 c = head_wrong _ _ _ _ c.number.ensures c.if-head-ne3.true

pub returns-then-m-ne9 : goal.returns-then-m-ne9
returns-then-m-ne9 c = matrix_wrong _ _ _ _ c.number-then-m-ne9.ensures (search rules) c.if-m-ne9.true

pub returns-in-Err : goal.returns-in-Err
returns-in-Err c = faulty _ _ _ _ (search rules) (search rules) c.read.ensures c.in-Err.is c.of_fault.ensures

pub returns-in-Ok : goal.returns-in-Ok
returns-in-Ok c = found _ _ _ _ (search rules) (search rules) c.read.ensures c.in-Ok.is refl (rw (c.copy_from_slice.ensures.after, c.put.ensures, c.from.ensures, c.from-in-Ok.ensures))
