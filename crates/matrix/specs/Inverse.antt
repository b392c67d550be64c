-- Document 01, 'Modules, leaves first', 5, and 'Rules of the arithmetic': determinants and inverses, term by term as the document and the text write them.
-- Orders 2 and 3 divide by the determinant, order 4 multiplies by one reciprocal.
-- The fields x, y, z, w of a matrix are its columns 0 to 3, those of a column its rows 0 to 3: `m.y.x` is the document's m[1][0]. Assumes nothing.
use Rattle.std.specs.Prelude.{ℕ, ◌+◌, ◌%◌, cond, map, eqb, Float}
use Rattle.std.specs.Float.Ieee.{neg, eq}
use Rattle.vector.specs.Arithmetic.{◌⊕◌, ◌⊖◌, ◌⊗◌, ◌⊘◌, float0, float1}
use Rattle.vector.specs.Refusals.{Outcome, given, refused_for, after}
use Rattle.vector.specs.Vectors.{vector4, dot4, cross3, without}
use Rattle.vector.specs.Vectors as vectors
use Rattle.vector.specs.declared.refusal.Refusal.TheVariants.{Singular}
use Rattle.vector.specs.declared.Vector4.{Vector4}
use Rattle.matrix.specs.Records.{matrix3, matrix4, new2, array4, of_array3}
use Rattle.matrix.specs.Places.{transpose3, transpose4}
use Rattle.matrix.specs.declared.records.Matrix2.{Matrix2}
use Rattle.matrix.specs.declared.records.Matrix3.{Matrix3}
use Rattle.matrix.specs.declared.records.Matrix4.{Matrix4}

-- ---- determinants

-- m[0][0]·m[1][1] − m[1][0]·m[0][1]
unfoldable pub det2 : Matrix2 → Float
det2 m = m.x.x ⊗ m.y.y ⊖ m.y.x ⊗ m.x.y

-- (first − second) + third, along row 0
unfoldable pub det3 : Matrix3 → Float
det3 m =
    m.x.x ⊗ (m.y.y ⊗ m.z.z ⊖ m.z.y ⊗ m.y.z)
    ⊖ m.y.x ⊗ (m.x.y ⊗ m.z.z ⊖ m.z.y ⊗ m.x.z)
    ⊕ m.z.x ⊗ (m.x.y ⊗ m.y.z ⊖ m.y.y ⊗ m.x.z)

-- the product entry by entry, the text's mul_element_wise
abbrev pub times_each : Vector4 → Vector4 → Vector4
times_each = vectors.zip4 ◌⊗◌

-- det_sub_proc of the rows that the text names by their numbers x, y and z: entry c of a row is in column c, so `rowX.y` is the text's s[4 + x].
-- The nine vectors are the text's a to i; a term is, entry by entry, one number times the product of two others; three are added, and then three subtracted
unfoldable pub det_sub_proc : (rowX rowY rowZ : Vector4) → Vector4
det_sub_proc rowX rowY rowZ =
    let a = vector4 rowX.y rowX.w rowX.x rowX.z in
    let b = vector4 rowY.z rowY.z rowY.y rowY.y in
    let c = vector4 rowZ.w rowZ.x rowZ.w rowZ.x in
    let d = vector4 rowX.z rowX.z rowX.y rowX.y in
    let e = vector4 rowY.w rowY.x rowY.w rowY.x in
    let f = vector4 rowZ.y rowZ.w rowZ.x rowZ.z in
    let g = vector4 rowX.w rowX.x rowX.w rowX.x in
    let h = vector4 rowY.y rowY.w rowY.x rowY.z in
    let i = vector4 rowZ.z rowZ.z rowZ.y rowZ.y in
    let term : Vector4 → Vector4 → Vector4 → Vector4 = λ p q r. times_each p (times_each q r) in
    let added = vectors.add4 (vectors.add4 (term a b c) (term d e f)) (term g h i) in
    vectors.sub4 (vectors.sub4 (vectors.sub4 added (term a e i)) (term d h c)) (term g b f)

-- the vector of det_sub_proc(1, 2, 3) dot row 0
unfoldable pub det4 : Matrix4 → Float
det4 m = let rows = transpose4 m in dot4 (det_sub_proc rows.y rows.z rows.w) rows.x

-- ---- inverses

-- refusal 2 where the float determinant compares equal to zero: no tolerance, and a NaN is not equal to zero
unfoldable pub nonzero : Float → Outcome Unit
nonzero d = cond (eq d float0) (refused_for Singular) (given tt)

-- columns (m[1][1]/d, −m[0][1]/d), (−m[1][0]/d, m[0][0]/d)
abbrev pub inverse2 : Matrix2 → Float → Matrix2
inverse2 m d = new2 (m.y.y ⊘ d) (neg m.x.y ⊘ d) (neg m.y.x ⊘ d) (m.x.x ⊘ d)

-- three cross products, each divided by d, as columns, then transposed
abbrev pub inverse3 : Matrix3 → Float → Matrix3
inverse3 m d =
    transpose3
    (matrix3
    (vectors.div_scalar3 (cross3 m.y m.z) d)
    (vectors.div_scalar3 (cross3 m.z m.x) d)
    (vectors.div_scalar3 (cross3 m.x m.y) d))

-- the matrix without its column i, and each kept column without its element j
abbrev pub without_place : Matrix4 → ℕ → ℕ → Matrix3
without_place t i j = of_array3 (map (without j) (without i (array4 t)))

-- −1 exactly when i+j is odd
abbrev pub sign : ℕ → ℕ → Float
sign i j = cond (eqb ((i + j) % 2) 1) (neg float1) float1

-- the minor, of the transpose, with its sign
unfoldable pub cofactor : Matrix4 → ℕ → ℕ → Float
cofactor t i j = det3 (without_place t i j) ⊗ sign i j

-- column i of the inverse, from the transpose and the reciprocal: row j is minor · sign · reciprocal, left to right
unfoldable pub inverse_column : Matrix4 → Float → ℕ → Vector4
inverse_column t invDet i =
    vector4 (cofactor t i 0 ⊗ invDet) (cofactor t i 1 ⊗ invDet) (cofactor t i 2 ⊗ invDet) (cofactor t i 3 ⊗ invDet)

-- every column, by one reciprocal
abbrev pub inverse4 : Matrix4 → Float → Matrix4
inverse4 m d =
    let column = inverse_column (transpose4 m) (float1 ⊘ d) in matrix4 (column 0) (column 1) (column 2) (column 3)

-- refused with 2, or the inverse
abbrev pub invert2 : Matrix2 → Outcome Matrix2
invert2 m = after (nonzero (det2 m)) (given (inverse2 m (det2 m)))

abbrev pub invert3 : Matrix3 → Outcome Matrix3
invert3 m = after (nonzero (det3 m)) (given (inverse3 m (det3 m)))

abbrev pub invert4 : Matrix4 → Outcome Matrix4
invert4 m = after (nonzero (det4 m)) (given (inverse4 m (det4 m)))
