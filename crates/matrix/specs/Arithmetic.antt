-- Document 01, 'Modules, leaves first', 4, and 'Rules of the arithmetic': sums, scalar forms and products.
-- Entry by entry operations stand over one map and one zip for each record. Assumes nothing.
use Rattle.std.specs.Prelude.{Float}
use Rattle.std.specs.Float.Ieee.{neg}
use Rattle.vector.specs.Arithmetic.{◌⊕◌, ◌⊖◌, ◌⊗◌, ◌⊘◌}
use Rattle.vector.specs.Vectors as vectors
use Rattle.vector.specs.Vectors.{vector2, vector3, vector4, dot2, dot3, dot4}
use Rattle.vector.specs.declared.Vector2.{Vector2}
use Rattle.vector.specs.declared.Vector3.{Vector3}
use Rattle.vector.specs.declared.Vector4.{Vector4}
use Rattle.matrix.specs.Records.{matrix2, matrix3, matrix4}
use Rattle.matrix.specs.Places.{transpose2, transpose3, transpose4}
use Rattle.matrix.specs.declared.records.Matrix2.{Matrix2}
use Rattle.matrix.specs.declared.records.Matrix3.{Matrix3}
use Rattle.matrix.specs.declared.records.Matrix4.{Matrix4}

-- ---- entry by entry

-- an operation on each entry
abbrev pub map2 : (Float → Float) → Matrix2 → Matrix2
map2 f m = matrix2 (vectors.map2 f m.x) (vectors.map2 f m.y)

abbrev pub map3 : (Float → Float) → Matrix3 → Matrix3
map3 f m = matrix3 (vectors.map3 f m.x) (vectors.map3 f m.y) (vectors.map3 f m.z)

abbrev pub map4 : (Float → Float) → Matrix4 → Matrix4
map4 f m = matrix4 (vectors.map4 f m.x) (vectors.map4 f m.y) (vectors.map4 f m.z) (vectors.map4 f m.w)

-- an operation on the entries of two matrices that stand in one place
abbrev pub zip2 : (Float → Float → Float) → Matrix2 → Matrix2 → Matrix2
zip2 f a b = matrix2 (vectors.zip2 f a.x b.x) (vectors.zip2 f a.y b.y)

abbrev pub zip3 : (Float → Float → Float) → Matrix3 → Matrix3 → Matrix3
zip3 f a b = matrix3 (vectors.zip3 f a.x b.x) (vectors.zip3 f a.y b.y) (vectors.zip3 f a.z b.z)

abbrev pub zip4 : (Float → Float → Float) → Matrix4 → Matrix4 → Matrix4
zip4 f a b = matrix4 (vectors.zip4 f a.x b.x) (vectors.zip4 f a.y b.y) (vectors.zip4 f a.z b.z) (vectors.zip4 f a.w b.w)

-- the sum
abbrev pub add2 : Matrix2 → Matrix2 → Matrix2
add2 = zip2 ◌⊕◌

abbrev pub add3 : Matrix3 → Matrix3 → Matrix3
add3 = zip3 ◌⊕◌

abbrev pub add4 : Matrix4 → Matrix4 → Matrix4
add4 = zip4 ◌⊕◌

-- the difference
abbrev pub sub2 : Matrix2 → Matrix2 → Matrix2
sub2 = zip2 ◌⊖◌

abbrev pub sub3 : Matrix3 → Matrix3 → Matrix3
sub3 = zip3 ◌⊖◌

abbrev pub sub4 : Matrix4 → Matrix4 → Matrix4
sub4 = zip4 ◌⊖◌

-- the scalar, on the left, times the matrix
abbrev pub scalar_mul2 : Float → Matrix2 → Matrix2
scalar_mul2 s = map2 (λ e. s ⊗ e)

abbrev pub scalar_mul3 : Float → Matrix3 → Matrix3
scalar_mul3 s = map3 (λ e. s ⊗ e)

abbrev pub scalar_mul4 : Float → Matrix4 → Matrix4
scalar_mul4 s = map4 (λ e. s ⊗ e)

-- the scalar, on the left, divided by the matrix
abbrev pub scalar_div2 : Float → Matrix2 → Matrix2
scalar_div2 s = map2 (λ e. s ⊘ e)

abbrev pub scalar_div3 : Float → Matrix3 → Matrix3
scalar_div3 s = map3 (λ e. s ⊘ e)

abbrev pub scalar_div4 : Float → Matrix4 → Matrix4
scalar_div4 s = map4 (λ e. s ⊘ e)

-- ---- products

-- matrix times vector: each row dot the vector
abbrev pub mul_vector2 : Matrix2 → Vector2 → Vector2
mul_vector2 m v = let rows = transpose2 m in vector2 (dot2 rows.x v) (dot2 rows.y v)

abbrev pub mul_vector3 : Matrix3 → Vector3 → Vector3
mul_vector3 m v = let rows = transpose3 m in vector3 (dot3 rows.x v) (dot3 rows.y v) (dot3 rows.z v)

abbrev pub mul_vector4 : Matrix4 → Vector4 → Vector4
mul_vector4 m v = let rows = transpose4 m in vector4 (dot4 rows.x v) (dot4 rows.y v) (dot4 rows.z v) (dot4 rows.w v)

-- product, orders 2 and 3: column j, row i is row i of the left dot column j of the right
abbrev pub mul2 : Matrix2 → Matrix2 → Matrix2
mul2 a b = matrix2 (mul_vector2 a b.x) (mul_vector2 a b.y)

abbrev pub mul3 : Matrix3 → Matrix3 → Matrix3
mul3 a b = matrix3 (mul_vector3 a b.x) (mul_vector3 a b.y) (mul_vector3 a b.z)

-- the left-to-right sum over k of column k times entry k of the vector
abbrev pub combine4 : Matrix4 → Vector4 → Vector4
combine4 m v =
    vector4
    (m.x.x ⊗ v.x ⊕ m.y.x ⊗ v.y ⊕ m.z.x ⊗ v.z ⊕ m.w.x ⊗ v.w)
    (m.x.y ⊗ v.x ⊕ m.y.y ⊗ v.y ⊕ m.z.y ⊗ v.z ⊕ m.w.y ⊗ v.w)
    (m.x.z ⊗ v.x ⊕ m.y.z ⊗ v.y ⊕ m.z.z ⊗ v.z ⊕ m.w.z ⊗ v.w)
    (m.x.w ⊗ v.x ⊕ m.y.w ⊗ v.y ⊕ m.z.w ⊗ v.z ⊕ m.w.w ⊗ v.w)

-- product, order 4: column j, row i is the left-to-right sum over k of a[k][i] times b[j][k]
abbrev pub mul4 : Matrix4 → Matrix4 → Matrix4
mul4 a b = matrix4 (combine4 a b.x) (combine4 a b.y) (combine4 a b.z) (combine4 a b.w)

-- ---- beyond the list of document 01, 'What is taken': in the text, one operation for each entry

-- every sign turned
abbrev pub neg2 : Matrix2 → Matrix2
neg2 = map2 neg

abbrev pub neg3 : Matrix3 → Matrix3
neg3 = map3 neg

abbrev pub neg4 : Matrix4 → Matrix4
neg4 = map4 neg

-- the matrix times the scalar, on the right
abbrev pub mul_scalar2 : Matrix2 → Float → Matrix2
mul_scalar2 m s = map2 (λ e. e ⊗ s) m

abbrev pub mul_scalar3 : Matrix3 → Float → Matrix3
mul_scalar3 m s = map3 (λ e. e ⊗ s) m

abbrev pub mul_scalar4 : Matrix4 → Float → Matrix4
mul_scalar4 m s = map4 (λ e. e ⊗ s) m

-- the matrix divided by the scalar, on the right
abbrev pub div_scalar2 : Matrix2 → Float → Matrix2
div_scalar2 m s = map2 (λ e. e ⊘ s) m

abbrev pub div_scalar3 : Matrix3 → Float → Matrix3
div_scalar3 m s = map3 (λ e. e ⊘ s) m

abbrev pub div_scalar4 : Matrix4 → Float → Matrix4
div_scalar4 m s = map4 (λ e. e ⊘ s) m
