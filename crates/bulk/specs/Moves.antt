-- Document 01, 'Bulk moves': each vector and each point separately, by the port's own matrix times vector.
-- Assumes nothing.
use Rattle.std.specs.Prelude.{ℕ, ◌-◌, cond, List, eqb, Float}
use Rattle.vector.specs.Arithmetic.{float1}
use Rattle.vector.specs.Refusals.{Outcome, given, after}
use Rattle.vector.specs.Vectors.{vector2, vector3, vector4, entries2, entries3, entries4, of_entries2, of_entries3, of_entries4}
use Rattle.vector.specs.declared.Vector2.{Vector2}
use Rattle.vector.specs.declared.Vector3.{Vector3}
use Rattle.matrix.specs.Records.{of_array2, of_array3, of_array4}
use Rattle.matrix.specs.Arithmetic.{mul_vector2, mul_vector3, mul_vector4}
use Rattle.matrix.specs.declared.records.Matrix2.{Matrix2}
use Rattle.matrix.specs.declared.records.Matrix3.{Matrix3}
use Rattle.matrix.specs.declared.records.Matrix4.{Matrix4}
use Rattle.bulk.specs.Groups.{groups, each}
use Rattle.bulk.specs.Refusals.{lengths_of, move_fits}

-- ---- the matrix of a flat list of order² numbers: its groups are the columns

unfoldable pub flat2 : List Float → Matrix2
flat2 l = of_array2 (groups 2 2 l)

unfoldable pub flat3 : List Float → Matrix3
flat3 l = of_array3 (groups 3 3 l)

unfoldable pub flat4 : List Float → Matrix4
flat4 l = of_array4 (groups 4 4 l)

-- ---- one vector, one point

-- the matrix times the vector of these numbers
unfoldable pub vector_by2 : Matrix2 → List Float → List Float
vector_by2 m v = entries2 (mul_vector2 m (of_entries2 v))

unfoldable pub vector_by3 : Matrix3 → List Float → List Float
vector_by3 m v = entries3 (mul_vector3 m (of_entries3 v))

unfoldable pub vector_by4 : Matrix4 → List Float → List Float
vector_by4 m v = entries4 (mul_vector4 m (of_entries4 v))

-- a point of order 3: extended by 1, multiplied, the last coordinate of the answer dropped
abbrev pub move_point3 : Matrix3 → Vector2 → Vector2
move_point3 m p = let moved = mul_vector3 m (vector3 p.x p.y float1) in vector2 moved.x moved.y

-- a point of order 4: extended by 1, multiplied, the last coordinate of the answer dropped
abbrev pub move_point4 : Matrix4 → Vector3 → Vector3
move_point4 m p = let moved = mul_vector4 m (vector4 p.x p.y p.z float1) in vector3 moved.x moved.y moved.z

-- the point of these numbers, moved
unfoldable pub point_by3 : Matrix3 → List Float → List Float
point_by3 m p = entries2 (move_point3 m (of_entries2 p))

unfoldable pub point_by4 : Matrix4 → List Float → List Float
point_by4 m p = entries3 (move_point4 m (of_entries3 p))

-- ---- by the order, for a matrix that is a flat list

-- a vector of order 2, 3 or 4
abbrev pub move_vector : ℕ → List Float → List Float → List Float
move_vector order m = cond (eqb order 2) (vector_by2 (flat2 m)) (cond (eqb order 3) (vector_by3 (flat3 m)) (vector_by4 (flat4 m)))

-- a point of order 3 or 4
abbrev pub move_point : ℕ → List Float → List Float → List Float
move_point order m = cond (eqb order 3) (point_by3 (flat3 m)) (point_by4 (flat4 m))

-- every vector, or the refusal
abbrev pub move_vectors : ℕ → List Float → List Float → List Float → Outcome (List Float)
move_vectors order m vectors output =
    after (move_fits 0 order (lengths_of m vectors output)) (given (each order (move_vector order m) vectors))

-- every point, or the refusal
abbrev pub move_points : ℕ → List Float → List Float → List Float → Outcome (List Float)
move_points order m points output =
    after (move_fits 1 order (lengths_of m points output)) (given (each (order - 1) (move_point order m) points))
