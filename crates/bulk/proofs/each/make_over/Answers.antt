-- A turn writes what the closure gives for the vector at its place. Assumes nothing.
use mathlib.Core.Path.{refl, ap, ◌∙◌}
use native.Mathlib.Nat.{zero-mod, add-mod_right}
use native.Mathlib.Omega.{arith}
use Rattle.bulk.proofs.Groups.{room, turn, ended}
use Rattle.bulk.proofs.each.make_over.Goals as goal

pub loop-i-init : goal.loop-i-init
loop-i-init g c = (zero-mod _, λ h computes. refl)

pub at-requires : goal.at-requires
at-requires g c = omega (arith, room _ _ _ c.loop-i.invariant.0 c.requires.whole c.loop-i-test.true)

pub put-requires : goal.put-requires
put-requires g c = omega (arith, room _ _ _ c.loop-i.invariant.0 c.requires.whole c.loop-i-test.true, c.loop-i.auto.output, c.requires.same)

pub loop-i-preserved : goal.loop-i-preserved
loop-i-preserved g c =
    rw c.LENGTH-i.ensures
    (add-mod_right c.loop-i.i g.V.Vector.LENGTH ∙ c.loop-i.invariant.0, λ h computes. turn _ g.met.V.Vector.some _ _ _ c.loop-i.i (g.V.Vector.entries c.f.result) _ (c.loop-i.invariant.1 h computes) (c.loop-i.auto.output ∙ c.requires.same) (room _ _ _ c.loop-i.invariant.0 c.requires.whole c.loop-i-test.true) (ap g.V.Vector.entries (computes _ _ c.f.ensures) ∙ ap (λ v. g.V.Vector.entries (h v)) c.at.ensures) (g.met.V.Vector.length_is c.f.result) c.put.ensures)

pub returns : goal.returns
returns g c = λ h computes. ended _ g.met.V.Vector.some _ _ _ c.loop-i.i (c.loop-i.invariant.1 h computes) (c.loop-i.auto.output ∙ c.requires.same) c.loop-i-test.false
