-- Document 01, 'Modules, leaves first', 2, and 'What is taken': the matrix records, their arrays, the builders and the embeddings, column by column.
-- Every number stands where the document and the text put it; nothing is computed here. A comment holds for the orders below it. Assumes nothing.
use Rattle.std.specs.Prelude.{ℕ, List, [], ◌∷◌, get_or, Float}
use Rattle.vector.specs.Arithmetic.{float0, float1}
use Rattle.vector.specs.Vectors.{vector2, vector3, vector4, entries2, entries3, entries4, of_entries2, of_entries3, of_entries4}
use Rattle.vector.specs.declared.Vector2.{Vector2}
use Rattle.vector.specs.declared.Vector3.{Vector3}
use Rattle.vector.specs.declared.Vector4.{Vector4}
use Rattle.matrix.specs.declared.records.Matrix2.{Matrix2}
use Rattle.matrix.specs.declared.records.Matrix3.{Matrix3}
use Rattle.matrix.specs.declared.records.Matrix4.{Matrix4}

-- ---- the records

-- the order of each record: how many rows and columns it has
abbrev pub order2 : ℕ
order2 = 2

abbrev pub order3 : ℕ
order3 = 3

abbrev pub order4 : ℕ
order4 = 4

-- the matrix of these columns
abbrev pub matrix2 : Vector2 → Vector2 → Matrix2
matrix2 c0 c1 = record { x = c0; y = c1 }

abbrev pub matrix3 : Vector3 → Vector3 → Vector3 → Matrix3
matrix3 c0 c1 c2 = record { x = c0; y = c1; z = c2 }

abbrev pub matrix4 : Vector4 → Vector4 → Vector4 → Vector4 → Matrix4
matrix4 c0 c1 c2 c3 = record { x = c0; y = c1; z = c2; w = c3 }

-- the matrix of these entries, column by column
abbrev pub new2 : Float → Float → Float → Float → Matrix2
new2 a b c d = matrix2 (vector2 a b) (vector2 c d)

abbrev pub new3 : Float → Float → Float → Float → Float → Float → Float → Float → Float → Matrix3
new3 a b c d e f g h i = matrix3 (vector3 a b c) (vector3 d e f) (vector3 g h i)

abbrev pub new4 : Float → Float → Float → Float → Float → Float → Float → Float → Float → Float → Float → Float → Float → Float → Float → Float → Matrix4
new4 a b c d e f g h i j k l m n o p =
    matrix4 (vector4 a b c d) (vector4 e f g h) (vector4 i j k l) (vector4 m n o p)

-- ---- arrays

-- column c of an array of columns
abbrev pub column : List (List Float) → ℕ → List Float
column a c = get_or a c []

-- the record as an array of columns, each an array of numbers
abbrev pub array2 : Matrix2 → List (List Float)
array2 m = entries2 m.x ∷ entries2 m.y ∷ []

abbrev pub array3 : Matrix3 → List (List Float)
array3 m = entries3 m.x ∷ entries3 m.y ∷ entries3 m.z ∷ []

abbrev pub array4 : Matrix4 → List (List Float)
array4 m = entries4 m.x ∷ entries4 m.y ∷ entries4 m.z ∷ entries4 m.w ∷ []

-- and back to the record
abbrev pub of_array2 : List (List Float) → Matrix2
of_array2 a = matrix2 (of_entries2 (column a 0)) (of_entries2 (column a 1))

abbrev pub of_array3 : List (List Float) → Matrix3
of_array3 a = matrix3 (of_entries3 (column a 0)) (of_entries3 (column a 1)) (of_entries3 (column a 2))

abbrev pub of_array4 : List (List Float) → Matrix4
of_array4 a =
    matrix4 (of_entries4 (column a 0)) (of_entries4 (column a 1)) (of_entries4 (column a 2)) (of_entries4 (column a 3))

-- ---- builders

-- the vector down the diagonal, 0 elsewhere
abbrev pub from_diagonal2 : Vector2 → Matrix2
from_diagonal2 v =
    new2
    v.x float0
    float0 v.y

abbrev pub from_diagonal3 : Vector3 → Matrix3
from_diagonal3 v =
    new3
    v.x float0 float0
    float0 v.y float0
    float0 float0 v.z

abbrev pub from_diagonal4 : Vector4 → Matrix4
from_diagonal4 v =
    new4
    v.x float0 float0 float0
    float0 v.y float0 float0
    float0 float0 v.z float0
    float0 float0 float0 v.w

-- the value down the diagonal, 0 elsewhere; at order 2 this is also from_scale, which the text lacks
abbrev pub from_value2 : Float → Matrix2
from_value2 s = from_diagonal2 (vector2 s s)

abbrev pub from_value3 : Float → Matrix3
from_value3 s = from_diagonal3 (vector3 s s s)

abbrev pub from_value4 : Float → Matrix4
from_value4 s = from_diagonal4 (vector4 s s s s)

-- the zero and the identity of each record
abbrev pub zero2 : Matrix2
zero2 = from_value2 float0

abbrev pub zero3 : Matrix3
zero3 = from_value3 float0

abbrev pub zero4 : Matrix4
zero4 = from_value4 float0

abbrev pub identity2 : Matrix2
identity2 = from_value2 float1

abbrev pub identity3 : Matrix3
identity3 = from_value3 float1

abbrev pub identity4 : Matrix4
identity4 = from_value4 float1

-- the affine builders: a move of a point by the vector
abbrev pub from_translation3 : Vector2 → Matrix3
from_translation3 v =
    new3
    float1 float0 float0
    float0 float1 float0
    v.x v.y float1

abbrev pub from_translation4 : Vector3 → Matrix4
from_translation4 v =
    new4
    float1 float0 float0 float0
    float0 float1 float0 float0
    float0 float0 float1 float0
    v.x v.y v.z float1

-- the scale builders: a scale for each coordinate of a point; from_scale is this at one value for all
abbrev pub from_nonuniform_scale3 : Float → Float → Matrix3
from_nonuniform_scale3 a b = from_diagonal3 (vector3 a b float1)

abbrev pub from_nonuniform_scale4 : Float → Float → Float → Matrix4
from_nonuniform_scale4 a b c = from_diagonal4 (vector4 a b c float1)

-- ---- embeddings: the entries in the corner of the identity

abbrev pub embed23 : Matrix2 → Matrix3
embed23 m =
    new3
    m.x.x m.x.y float0
    m.y.x m.y.y float0
    float0 float0 float1

abbrev pub embed34 : Matrix3 → Matrix4
embed34 m =
    new4
    m.x.x m.x.y m.x.z float0
    m.y.x m.y.y m.y.z float0
    m.z.x m.z.y m.z.z float0
    float0 float0 float0 float1

abbrev pub embed24 : Matrix2 → Matrix4
embed24 m = embed34 (embed23 m)
