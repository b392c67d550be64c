-- The sign, and then the magnitudes. Assumes nothing.
use Rattle.report.proofs.Fractions.{fraction_text}
use Rattle.report.proofs.Writing.{then, named}
use Rattle.report.proofs.fraction.fraction.Goals as goal

pub returns : goal.returns
returns c = named (fraction_text c.args.k c.args.s c.ranges.k.sfits c.ranges.s.sfits _ _ _ c.magnitude.ensures c.magnitude-2.ensures c.reduced.ensures) (then c.minus.ensures c.unsigned.ensures)
