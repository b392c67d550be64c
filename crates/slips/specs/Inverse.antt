-- Document 01, 'Slips this trade knows': an inverse with one slip in it, and the input at which it parts from the inverse of `matrix`.
-- Each follows the text of the right definition, in matrix/specs/Inverse.antt, but for the slip. Assumes nothing.
use Rattle.std.specs.Prelude.{ℕ, cond, ◌&&◌, ◌||◌, Float}
use Rattle.std.specs.Float.{binary64}
use Rattle.std.specs.Float.Ieee.{of_bits, neg, eq, le, is_nan}
use Rattle.vector.specs.Arithmetic.{◌⊗◌, ◌⊘◌, float0, float1}
use Rattle.vector.specs.Refusals.{Outcome, given, refused_for, after}
use Rattle.vector.specs.Vectors.{vector2, vector3, vector4, map3, cross3}
use Rattle.vector.specs.declared.refusal.Refusal.TheVariants.{Singular}
use Rattle.vector.specs.declared.Vector3.{Vector3}
use Rattle.vector.specs.declared.Vector4.{Vector4}
use Rattle.matrix.specs.Records.{matrix3, matrix4, new2, from_value2, from_diagonal2, from_diagonal3, from_diagonal4}
use Rattle.matrix.specs.Places.{transpose3, transpose4}
use Rattle.matrix.specs.Inverse.{det2, det3, det4, nonzero, inverse2, inverse4, cofactor, invert2, invert3, invert4}
use Rattle.matrix.specs.declared.records.Matrix2.{Matrix2}
use Rattle.matrix.specs.declared.records.Matrix3.{Matrix3}
use Rattle.matrix.specs.declared.records.Matrix4.{Matrix4}
use Rattle.reference.specs.Table.{whole}
use Rattle.slips.specs.Parts.{Parts, r5, r10}

-- ---- the slips

-- slip: the answer of order 4 is transposed
abbrev pub invert4_transposed : Matrix4 → Outcome Matrix4
invert4_transposed m = after (nonzero (det4 m)) (given (transpose4 (inverse4 m (det4 m))))

-- slip: 1/d at order 2, which rounds twice
abbrev pub invert2_by_reciprocal : Matrix2 → Outcome Matrix2
invert2_by_reciprocal m =
    let r = float1 ⊘ det2 m in
    after (nonzero (det2 m)) (given (new2 (m.y.y ⊗ r) (neg m.x.y ⊗ r) (neg m.y.x ⊗ r) (m.x.x ⊗ r)))

-- slip: 1/d at order 3, which rounds twice
abbrev pub invert3_by_reciprocal : Matrix3 → Outcome Matrix3
invert3_by_reciprocal m =
    let scaled : Vector3 → Vector3 = map3 (λ e. e ⊗ (float1 ⊘ det3 m)) in
    after (nonzero (det3 m))
    (given (transpose3 (matrix3 (scaled (cross3 m.y m.z)) (scaled (cross3 m.z m.x)) (scaled (cross3 m.x m.y)))))

-- slip: order 4 divides by d
abbrev pub invert4_divided : Matrix4 → Outcome Matrix4
invert4_divided m =
    let d = det4 m in
    let t = transpose4 m in
    let column : ℕ → Vector4 = λ i. vector4 (cofactor t i 0 ⊘ d) (cofactor t i 1 ⊘ d) (cofactor t i 2 ⊘ d) (cofactor t i 3 ⊘ d) in
    after (nonzero d) (given (matrix4 (column 0) (column 1) (column 2) (column 3)))

-- 2^−52, by its bit pattern
abbrev pub tolerance : Float
tolerance = of_bits binary64 0x3cb0_0000_0000_0000

-- slip: the determinant is tested against a small tolerance
abbrev pub invert2_tolerant : Matrix2 → Outcome Matrix2
invert2_tolerant m =
    let d = det2 m in
    after (cond (le (neg tolerance) d && le d tolerance) (refused_for Singular) (given tt)) (given (inverse2 m d))

-- slip: a NaN is refused
abbrev pub invert2_refuses_nan : Matrix2 → Outcome Matrix2
invert2_refuses_nan m =
    let d = det2 m in
    after (cond (eq d float0 || is_nan d) (refused_for Singular) (given tt)) (given (inverse2 m d))

-- ---- the inputs beside R5 and R10

-- 5 and 7 down the diagonal: 7/35 and 7·(1/35) are two numbers
abbrev pub five_seven2 : Matrix2
five_seven2 = from_diagonal2 (vector2 (whole 5) (whole 7))

abbrev pub five_seven3 : Matrix3
five_seven3 = from_diagonal3 (vector3 (whole 1) (whole 5) (whole 7))

abbrev pub five_seven4 : Matrix4
five_seven4 = from_diagonal4 (vector4 (whole 1) (whole 1) (whole 5) (whole 7))

-- 2^−30 down the diagonal: the determinant is 2^−60
abbrev pub tiny2 : Matrix2
tiny2 = from_value2 (of_bits binary64 0x3e10_0000_0000_0000)

-- ---- what is claimed

-- each parts from the right definition
pub record InverseSlips : Type 0 where
  pub transposed4 : Parts invert4 invert4_transposed r10
  pub reciprocal2 : Parts invert2 invert2_by_reciprocal five_seven2
  pub reciprocal3 : Parts invert3 invert3_by_reciprocal five_seven3
  pub divided4 : Parts invert4 invert4_divided five_seven4
  pub tolerant : Parts invert2 invert2_tolerant tiny2
  pub nan_refused : Parts invert2 invert2_refuses_nan r5
