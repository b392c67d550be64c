-- Each group before the turn's place is what the closure gives for it. Assumes nothing.
use Rattle.std.proofs.Common.{◌≡◌, ◌%◌, ◌-◌, length}
use Rattle.bulk.proofs.Groups.{SoFar}
use Rattle.bulk.proofs.each.make_over.Given as goal

abbrev pub invariant-loop-i : goal.invariant-loop-i
invariant-loop-i g l =
    (l.i % g.V.Vector.LENGTH ≡ 0)
    × ((h : g.row.V.Denot → g.row.V.Denot) → ((v w : g.row.V.Denot) → g.F.Fn.post l.f (v, tt) w → w ≡ h v)
    → SoFar g.V.Vector.LENGTH g.met.V.Vector.some (λ part. g.V.Vector.entries (h (g.V.Vector.of_entries part))) l.input l.output l.i)

abbrev pub decreases-loop-i : goal.decreases-loop-i
decreases-loop-i g l = length l.input - l.i
