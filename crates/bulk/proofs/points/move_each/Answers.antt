-- The loop makes each point over by the matrix that the slice holds. Assumes nothing.
use mathlib.Core.Path.{◌≡◌, refl, ◌∙◌}
use native.Mathlib.Omega.{arith}
use Rattle.std.proofs.Common.{rules}
use Rattle.bulk.specs.Moves.{flat3, flat4, move_point3, move_point4, point_by3, point_by4}
use Rattle.bulk.proofs.points.move_each.Goals as goal

pub returns-in-3 : goal.returns-in-3
unfolding point_by3 flat3
returns-in-3 c =
    let m = flat3 c.args.matrix.now in
    c.make_over.ensures (move_point3 m) (λ v w p. search (rules, c.matrix3-m.ensures)) ∙ rw c.in-3.is refl

pub returns-in_default : goal.returns-in_default
unfolding point_by4 flat4
returns-in_default c =
    let four : c.args.order ≡ 4 = omega (arith, c.requires.least, c.requires.most, c.in_default) in
    let m = flat4 c.args.matrix.now in
    c.make_over-in_default.ensures (move_point4 m) (λ v w p. search (rules, c.matrix4-m.ensures)) ∙ rw four refl
