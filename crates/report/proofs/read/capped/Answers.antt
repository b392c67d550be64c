-- A turn reads one digit. Assumes nothing.
use Rattle.std.proofs.Common.{refl, arith}
use Rattle.report.specs.Words.{value}
use Rattle.report.proofs.Reading.{cap_turn}
use Rattle.report.proofs.read.capped.Goals as goal

pub loop-byte-init : goal.loop-byte-init
unfolding value
loop-byte-init c = refl

pub loop-byte-preserved : goal.loop-byte-preserved
loop-byte-preserved c = cap_turn _ c.loop-byte.byte-index _ _ (omega arith) c.loop-byte.invariant c.continued-n.ensures
