-- Document 01, 'Modules, leaves first', 2 to 8, and document 02, No. 2, 'Read component records', at the boundary: the outcome of each entry, by the port's own definitions at order 2, 3 and 4.
-- Every matrix is the flat list of its columns; `out` is how many numbers the output holds. Assumes nothing.
use Rattle.std.specs.Prelude.{ℕ, List, [], ◌∷◌, length, eqb, cond, ℤ, Float}
use Rattle.vector.specs.Refusals.{Outcome, given, after, over}
use Rattle.vector.specs.Vectors.{entries2, entries3, entries4}
use Rattle.vector.specs.declared.refusal.Refusal.TheVariants.{OutputLength}
use Rattle.vector.specs.declared.Vector2.{Vector2}
use Rattle.vector.specs.declared.Vector3.{Vector3}
use Rattle.vector.specs.declared.Vector4.{Vector4}
use Rattle.matrix.specs.Records.{embed23, embed24, embed34}
use Rattle.matrix.specs.Places as places
use Rattle.matrix.specs.Arithmetic as arithmetic
use Rattle.matrix.specs.Inverse as inverse
use Rattle.matrix.specs.Rotations as rotations
use Rattle.matrix.specs.declared.records.Matrix2.{Matrix2}
use Rattle.matrix.specs.declared.records.Matrix3.{Matrix3}
use Rattle.matrix.specs.declared.records.Matrix4.{Matrix4}
use Rattle.matrix.specs.declared.places.Column.{Column}
use Rattle.matrix.specs.declared.places.Row.{Row}
use Rattle.engine.specs.Whole.{floats2, floats3, floats4}
use Rattle.engine.specs.Engine as engine
use Rattle.component.specs.Record as component
use Rattle.bulk.specs.Moves.{flat2, flat3, flat4}
use Rattle.bulk.specs.Refusals.{number_is}
use Rattle.migthumo.specs.Entries.{entry_fits, fits_to, by_order}
use Rattle.migthumo.specs.Flat.{numbers2, numbers3, numbers4, alone, flag, component_numbers}

-- ---- what is made of one matrix, of two, of none

-- numbers of one matrix, as many as the width says
unfoldable pub of_one : {A : Type 0} → ℕ → ℕ → List Float → ℕ → (Matrix2 → Outcome (List A)) → (Matrix3 → Outcome (List A)) → (Matrix4 → Outcome (List A)) → Outcome (List A)
of_one width order m out f g h =
    after (entry_fits 2 order (length m ∷ []) width out) (by_order order (f (flat2 m)) (g (flat3 m)) (h (flat4 m)))

-- numbers of two matrices
unfoldable pub of_two : {A : Type 0} → ℕ → ℕ → List Float → List Float → ℕ → (Matrix2 → Matrix2 → Outcome (List A)) → (Matrix3 → Matrix3 → Outcome (List A)) → (Matrix4 → Matrix4 → Outcome (List A)) → Outcome (List A)
of_two width order a b out f g h =
    after (entry_fits 2 order (length a ∷ length b ∷ []) width out)
    (by_order order (f (flat2 a) (flat2 b)) (g (flat3 a) (flat3 b)) (h (flat4 a) (flat4 b)))

-- a rotation, of no matrix, at order 3 or 4
unfoldable pub rotation_of : ℕ → ℕ → Matrix3 → Matrix4 → Outcome (List Float)
rotation_of order out three four =
    after (entry_fits 3 order [] 2 out) (cond (eqb order 3) (given (numbers3 three)) (given (numbers4 four)))

-- a matrix of one matrix
abbrev pub matrix_of : ℕ → List Float → ℕ → (Matrix2 → Outcome Matrix2) → (Matrix3 → Outcome Matrix3) → (Matrix4 → Outcome Matrix4) → Outcome (List Float)
matrix_of order m out f g h = of_one 2 order m out (λ x. over numbers2 (f x)) (λ x. over numbers3 (g x)) (λ x. over numbers4 (h x))

-- a vector of one matrix
abbrev pub vector_of : ℕ → List Float → ℕ → (Matrix2 → Outcome Vector2) → (Matrix3 → Outcome Vector3) → (Matrix4 → Outcome Vector4) → Outcome (List Float)
vector_of order m out f g h = of_one 1 order m out (λ x. over entries2 (f x)) (λ x. over entries3 (g x)) (λ x. over entries4 (h x))

-- a matrix of two matrices
abbrev pub matrix_of_two : ℕ → List Float → List Float → ℕ → (Matrix2 → Matrix2 → Matrix2) → (Matrix3 → Matrix3 → Matrix3) → (Matrix4 → Matrix4 → Matrix4) → Outcome (List Float)
matrix_of_two order a b out f g h = of_two 2 order a b out (λ a b. given (numbers2 (f a b))) (λ a b. given (numbers3 (g a b))) (λ a b. given (numbers4 (h a b)))

-- ---- determinant and inverse

abbrev pub determinant : ℕ → List Float → ℕ → Outcome (List Float)
determinant order m out =
    of_one 0 order m out (λ x. given (alone (inverse.det2 x))) (λ x. given (alone (inverse.det3 x))) (λ x. given (alone (inverse.det4 x)))

abbrev pub invert : ℕ → List Float → ℕ → Outcome (List Float)
invert order m out = matrix_of order m out inverse.invert2 inverse.invert3 inverse.invert4

-- ---- sums, scalar forms and products

abbrev pub product : ℕ → List Float → List Float → ℕ → Outcome (List Float)
product order a b out = matrix_of_two order a b out arithmetic.mul2 arithmetic.mul3 arithmetic.mul4

abbrev pub add : ℕ → List Float → List Float → ℕ → Outcome (List Float)
add order a b out = matrix_of_two order a b out arithmetic.add2 arithmetic.add3 arithmetic.add4

abbrev pub subtract : ℕ → List Float → List Float → ℕ → Outcome (List Float)
subtract order a b out = matrix_of_two order a b out arithmetic.sub2 arithmetic.sub3 arithmetic.sub4

-- the scalar on the left: times the matrix, divided by the matrix
abbrev pub scale : ℕ → Float → List Float → ℕ → Outcome (List Float)
scale order s m out =
    matrix_of order m out (λ x. given (arithmetic.scalar_mul2 s x)) (λ x. given (arithmetic.scalar_mul3 s x)) (λ x. given (arithmetic.scalar_mul4 s x))

abbrev pub divide : ℕ → Float → List Float → ℕ → Outcome (List Float)
divide order s m out =
    matrix_of order m out (λ x. given (arithmetic.scalar_div2 s x)) (λ x. given (arithmetic.scalar_div3 s x)) (λ x. given (arithmetic.scalar_div4 s x))

-- beyond the list of document 01, 'What is taken', as in `matrix`: the scalar on the right, and every sign turned
abbrev pub scale_by : ℕ → List Float → Float → ℕ → Outcome (List Float)
scale_by order m s out =
    matrix_of order m out (λ x. given (arithmetic.mul_scalar2 x s)) (λ x. given (arithmetic.mul_scalar3 x s)) (λ x. given (arithmetic.mul_scalar4 x s))

abbrev pub divide_by : ℕ → List Float → Float → ℕ → Outcome (List Float)
divide_by order m s out =
    matrix_of order m out (λ x. given (arithmetic.div_scalar2 x s)) (λ x. given (arithmetic.div_scalar3 x s)) (λ x. given (arithmetic.div_scalar4 x s))

abbrev pub negate : ℕ → List Float → ℕ → Outcome (List Float)
negate order m out =
    matrix_of order m out (λ x. given (arithmetic.neg2 x)) (λ x. given (arithmetic.neg3 x)) (λ x. given (arithmetic.neg4 x))

-- ---- the exact engine

abbrev pub signed_sum : ℕ → List Float → ℕ → Outcome (List ℤ)
signed_sum order m out =
    of_one 0 order m out
    (λ x. over alone (engine.signed_sum 1024 2 (floats2 x)))
    (λ x. over alone (engine.signed_sum 1024 3 (floats3 x)))
    (λ x. over alone (engine.signed_sum 1024 4 (floats4 x)))

abbrev pub undoable : ℕ → List Float → ℕ → Outcome (List ℕ)
undoable order m out =
    of_one 0 order m out
    (λ x. over flag (engine.undoable 1024 2 (floats2 x)))
    (λ x. over flag (engine.undoable 1024 3 (floats3 x)))
    (λ x. over flag (engine.undoable 1024 4 (floats4 x)))

-- ---- places

abbrev pub transpose : ℕ → List Float → ℕ → Outcome (List Float)
transpose order m out =
    matrix_of order m out (λ x. given (places.transpose2 x)) (λ x. given (places.transpose3 x)) (λ x. given (places.transpose4 x))

abbrev pub swap_rows : ℕ → Row → Row → List Float → ℕ → Outcome (List Float)
swap_rows order a b m out =
    matrix_of order m out (λ x. places.swap_rows2 x a b) (λ x. places.swap_rows3 x a b) (λ x. places.swap_rows4 x a b)

abbrev pub swap_columns : ℕ → Column → Column → List Float → ℕ → Outcome (List Float)
swap_columns order a b m out =
    matrix_of order m out (λ x. places.swap_columns2 x a b) (λ x. places.swap_columns3 x a b) (λ x. places.swap_columns4 x a b)

abbrev pub swap_elements : ℕ → Column → Row → Column → Row → List Float → ℕ → Outcome (List Float)
swap_elements order ac ar bc br m out =
    matrix_of order m out (λ x. places.swap_elements2 x ac ar bc br) (λ x. places.swap_elements3 x ac ar bc br) (λ x. places.swap_elements4 x ac ar bc br)

abbrev pub row : ℕ → Row → List Float → ℕ → Outcome (List Float)
row order r m out = vector_of order m out (λ x. places.row2 x r) (λ x. places.row3 x r) (λ x. places.row4 x r)

abbrev pub diagonal : ℕ → List Float → ℕ → Outcome (List Float)
diagonal order m out =
    vector_of order m out (λ x. given (places.diagonal2 x)) (λ x. given (places.diagonal3 x)) (λ x. given (places.diagonal4 x))

-- ---- embeddings and rotations

-- the matrix in the corner of the identity: 2 in 3, 2 in 4, 3 in 4
abbrev pub embed_of : ℕ → ℕ → List Float → Outcome (List Float)
embed_of order to m =
    cond (eqb to 3) (given (numbers3 (embed23 (flat2 m))))
    (cond (eqb order 2) (given (numbers4 (embed24 (flat2 m)))) (given (numbers4 (embed34 (flat3 m)))))

unfoldable pub embed : ℕ → ℕ → List Float → ℕ → Outcome (List Float)
embed order to m out = after (fits_to order to (length m) out) (embed_of order to m)

-- order 2 alone
abbrev pub from_angle : Float → Float → ℕ → Outcome (List Float)
from_angle s c out = after (number_is OutputLength out 4) (given (numbers2 (rotations.from_angle2 s c)))

-- orders 3 and 4
abbrev pub from_angle_x : ℕ → Float → Float → ℕ → Outcome (List Float)
from_angle_x order s c out = rotation_of order out (rotations.from_angle_x3 s c) (rotations.from_angle_x4 s c)

abbrev pub from_angle_y : ℕ → Float → Float → ℕ → Outcome (List Float)
from_angle_y order s c out = rotation_of order out (rotations.from_angle_y3 s c) (rotations.from_angle_y4 s c)

abbrev pub from_angle_z : ℕ → Float → Float → ℕ → Outcome (List Float)
from_angle_z order s c out = rotation_of order out (rotations.from_angle_z3 s c) (rotations.from_angle_z4 s c)

abbrev pub from_axis_angle : ℕ → Vector3 → Float → Float → ℕ → Outcome (List Float)
from_axis_angle order axis s c out = rotation_of order out (rotations.from_axis_angle3 axis s c) (rotations.from_axis_angle4 axis s c)

-- ---- component records of a font

-- document 02, No. 2, 'Read component records': refusal 4 unless the outputs hold 3 and 9 numbers, then what the record gives or refuses
unfoldable pub read_component : List ℕ → (at head m : ℕ) → Outcome (List ℕ × List Float)
read_component bytes at head m =
    after (number_is OutputLength head 3)
    (after (number_is OutputLength m 9)
    (over component_numbers (component.read_component bytes at)))

-- ---- the version

-- raised whenever the signature of an entry, or what it answers, changes
abbrev pub version : ℕ
version = 2
