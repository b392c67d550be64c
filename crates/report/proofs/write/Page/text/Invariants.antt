-- A turn writes one byte more. Assumes nothing.
use Rattle.std.proofs.Common.{take}
use Rattle.report.specs.Written.{Adds}
use Rattle.report.proofs.write.Page.text.Given as goal

abbrev pub invariant-loop-byte : goal.invariant-loop-byte
invariant-loop-byte l = Adds l.initial.self (take l.byte-index l.bytes) l.self
