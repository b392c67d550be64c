-- The loop makes each vector over by the matrix that the slice holds. Assumes nothing.
use mathlib.Core.Path.{◌≡◌, refl, ◌∙◌}
use native.Mathlib.Omega.{arith}
use Rattle.std.proofs.Common.{rules}
use Rattle.matrix.specs.Arithmetic.{mul_vector2, mul_vector3, mul_vector4}
use Rattle.bulk.specs.Moves.{flat2, flat3, flat4, vector_by2, vector_by3, vector_by4}
use Rattle.bulk.proofs.vectors.move_each.Goals as goal

pub returns-in-2 : goal.returns-in-2
unfolding vector_by2 flat2
returns-in-2 c =
    let m = flat2 c.args.matrix.now in
    c.make_over.ensures (mul_vector2 m) (λ v w p. search (rules, c.matrix2-m.ensures)) ∙ rw c.in-2.is refl

pub returns-in-3 : goal.returns-in-3
unfolding vector_by3 flat3
returns-in-3 c =
    let m = flat3 c.args.matrix.now in
    c.make_over-in-3.ensures (mul_vector3 m) (λ v w p. search (rules, c.matrix3-m.ensures)) ∙ rw c.in-3.is refl

pub returns-in_default : goal.returns-in_default
unfolding vector_by4 flat4
returns-in_default c =
    let four : c.args.order ≡ 4 = omega (arith, c.requires.least, c.requires.most, c.in_default) in
    let m = flat4 c.args.matrix.now in
    c.make_over-in_default.ensures (mul_vector4 m) (λ v w p. search (rules, c.matrix4-m.ensures)) ∙ rw four refl
