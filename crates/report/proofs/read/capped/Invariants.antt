-- A turn reads one digit. Assumes nothing.
use Rattle.std.proofs.Common.{◌≡◌, min, take}
use Rattle.report.specs.Words.{value}
use Rattle.report.proofs.read.capped.Given as goal

abbrev pub invariant-loop-byte : goal.invariant-loop-byte
invariant-loop-byte l = l.n ≡ min 1025 (value 0 (take l.byte-index l.digits))
