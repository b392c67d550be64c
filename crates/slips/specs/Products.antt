-- Document 01, 'Slips this trade knows' and 'Promises with nothing loose': a product with one slip in it, and the input at which it parts from the product of `matrix`.
-- Each follows the text of the right definition, in matrix/specs/Arithmetic.antt, but for the slip. Assumes nothing.
use Rattle.std.specs.Prelude.{◌≡◌}
use Rattle.vector.specs.Arithmetic.{◌⊕◌, ◌⊗◌}
use Rattle.vector.specs.Vectors.{vector3, dot3}
use Rattle.vector.specs.declared.Vector3.{Vector3}
use Rattle.matrix.specs.Records.{new2, identity2, identity3, identity4}
use Rattle.matrix.specs.Arithmetic.{mul2, mul3, mul4, mul_vector3}
use Rattle.matrix.specs.declared.records.Matrix2.{Matrix2}
use Rattle.matrix.specs.declared.records.Matrix3.{Matrix3}
use Rattle.reference.specs.Table.{whole}
use Rattle.slips.specs.Parts.{Parts, NoConstant, r6, r7, r8}

-- ---- the slips

-- slip: [c][r] is read as [r][c], so that entry [i][j] is the sum over k of a[i][k] times b[k][j]
abbrev pub mul2_row_first : Matrix2 → Matrix2 → Matrix2
mul2_row_first a b =
    new2
    (a.x.x ⊗ b.x.x ⊕ a.x.y ⊗ b.y.x) (a.x.x ⊗ b.x.y ⊕ a.x.y ⊗ b.y.y)
    (a.y.x ⊗ b.x.x ⊕ a.y.y ⊗ b.y.x) (a.y.x ⊗ b.x.y ⊕ a.y.y ⊗ b.y.y)

-- slip: [c][r] is read as [r][c] in matrix times vector, so that the columns are taken for the rows
abbrev pub mul_vector3_row_first : Matrix3 → Vector3 → Vector3
mul_vector3_row_first m v = let rows = m in vector3 (dot3 rows.x v) (dot3 rows.y v) (dot3 rows.z v)

-- slip: a product that returns its left side
abbrev pub mul2_left : Matrix2 → Matrix2 → Matrix2
mul2_left a b = a

-- ---- the input beside R7 and R8

-- 1, 2, 3
abbrev pub steps3 : Vector3
steps3 = vector3 (whole 1) (whole 2) (whole 3)

-- ---- what is claimed

-- each parts from the right definition; read row first, R7 has R8's answer; and a product that returns a constant parts from it, whichever the constant is
pub record ProductSlips : Type 0 where
  pub row_first2 : Parts (mul2 r7) (mul2_row_first r7) r8
  pub gives_r8 : mul2_row_first r7 r8 ≡ mul2 r8 r7
  pub vector_row_first3 : Parts (mul_vector3 r6) (mul_vector3_row_first r6) steps3
  pub left2 : Parts (mul2 r7) (mul2_left r7) r8
  pub constant2 : NoConstant (mul2 identity2)
  pub constant3 : NoConstant (mul3 identity3)
  pub constant4 : NoConstant (mul4 identity4)
