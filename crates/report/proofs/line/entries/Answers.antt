-- A turn reads one word. Assumes nothing.
use Rattle.report.specs.Grid.{size}
use Rattle.report.proofs.Lines.{square_few}
use Rattle.report.proofs.Listing.{turn, stop, ended}
use Rattle.report.proofs.line.entries.Goals as goal

pub loop-place-preserved : goal.loop-place-preserved
loop-place-preserved c =
    let next = c.in-Some.ensures.steps in
    let z = c.in-Some-entry.ensures in
    rw (next.1, next.2) (turn c.loop-place.invariant next.0 c.in-Some-entry.z z.0 z.1 (rw c.requires (square_few c.args.order)))

pub returns-in-None-entry : goal.returns-in-None-entry
returns-in-None-entry c =
    let next = c.in-Some.ensures.steps in
    rw next.1 (stop c.loop-place.invariant next.0 (size c.args.order) c.in-None-entry.ensures c.requires)

pub returns : goal.returns
returns c = ended (size c.args.order) c.loop-place.invariant c.in-None.ensures.steps.0.0 c.requires
