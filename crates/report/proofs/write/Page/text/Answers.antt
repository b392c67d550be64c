-- A turn writes one byte more. Assumes nothing.
use Rattle.std.proofs.Common.{arith}
use Rattle.report.proofs.Writing.{byte_more}
use Rattle.report.proofs.write.Page.text.Goals as goal

pub loop-byte-preserved : goal.loop-byte-preserved
loop-byte-preserved c = byte_more _ c.loop-byte.byte-index (omega arith) c.loop-byte.invariant c.put.ensures
