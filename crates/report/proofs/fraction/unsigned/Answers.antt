-- The number alone over 1, and with the number below it otherwise. Assumes nothing.
use Rattle.report.proofs.Fractions.{alone, over_under}
use Rattle.report.proofs.Writing.{then, named}
use Rattle.report.proofs.fraction.unsigned.Goals as goal

pub returns-then-q-ne1 : goal.returns-then-q-ne1
returns-then-q-ne1 c = named (over_under _ c.if-q-ne1.true) (then c.decimal.ensures (then c.text.ensures c.decimal-then-q-ne1.ensures))

pub returns-else-q-ne1 : goal.returns-else-q-ne1
returns-else-q-ne1 c = named (alone _ c.if-q-ne1.false) c.decimal.ensures
