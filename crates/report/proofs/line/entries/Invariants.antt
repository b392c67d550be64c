-- A turn reads one word. Assumes nothing.
use Rattle.report.proofs.Listing.{SoFar}
use Rattle.report.proofs.line.entries.Given as goal

abbrev pub invariant-loop-place : goal.invariant-loop-place
invariant-loop-place l = SoFar l.left.line.now l.entries l.place-iterator.iter.line.now l.place-iterator.count
