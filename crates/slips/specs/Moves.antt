-- Document 01, 'Bulk moves' and 'Promises with nothing loose': a bulk move with one slip in it, and the lists at which it parts from the definition of `bulk`.
-- Each follows the text of the right definition, in bulk/specs, but for the slip. Assumes nothing.
use Rattle.std.specs.Prelude.{ℕ, ◌-◌, ◌*◌, ◌%◌, cond, ◌&&◌, List, [], ◌∷◌, ◌++◌, leb, length, take, drop, replicate, Float}
use Rattle.vector.specs.Arithmetic.{float0}
use Rattle.vector.specs.Refusals.{Outcome, given, refused, refused_for, after, leaves}
use Rattle.vector.specs.Vectors.{vector2, vector3}
use Rattle.vector.specs.declared.refusal.Refusal.TheVariants.{InputLength, OutputLength, Order}
use Rattle.vector.specs.declared.Vector2.{Vector2}
use Rattle.matrix.specs.Arithmetic.{mul_vector3}
use Rattle.matrix.specs.declared.records.Matrix3.{Matrix3}
use Rattle.bulk.specs.Groups.{each}
use Rattle.bulk.specs.Refusals.{order_from, lengths_of, move_fits, number_is}
use Rattle.bulk.specs.Moves.{move_vector, move_point, move_point3, move_vectors, move_points}
use Rattle.reference.specs.Table.{whole}
use Rattle.slips.specs.Parts.{Parts, r6}

-- ---- the slips

-- slip: a move that writes nothing
abbrev pub writes_nothing : ℕ → List Float → List Float → List Float → Outcome (List Float)
writes_nothing order m vectors output =
    after (move_fits 0 order (lengths_of m vectors output)) (given output)

-- slip: the first vector is moved and the rest are copied
abbrev pub first_moved : ℕ → List Float → List Float → List Float → Outcome (List Float)
first_moved order m vectors output =
    after (move_fits 0 order (lengths_of m vectors output))
    (given (move_vector order m (take order vectors) ++ drop order vectors))

-- slip: the last point is skipped
abbrev pub last_skipped : ℕ → List Float → List Float → List Float → Outcome (List Float)
last_skipped order m points output =
    let most = length points - (order - 1) in
    after (move_fits 1 order (lengths_of m points output))
    (given (each (order - 1) (move_point order m) (take most points) ++ drop most output))

-- slip: a refusal that has written already: the vectors as they are, as far as the output has room
abbrev pub leaves_written : List Float → List Float → Outcome (List Float) → List Float
leaves_written vectors output (given moved) = moved
leaves_written vectors output (refused why) = take (length output) vectors ++ drop (length vectors) output

-- slip: 4 is tested before 3
abbrev pub output_first : ℕ → List Float → List Float → List Float → Outcome (List Float)
output_first order m vectors output =
    after
    (after (order_from 2 order)
    (after (number_is OutputLength (length output) (length vectors))
    (after (number_is InputLength (length m) (order * order))
    (number_is InputLength (length vectors % order) 0))))
    (given (each order (move_vector order m) vectors))

-- slip: order 5 is taken
abbrev pub order_five_taken : ℕ → List Float → List Float → List Float → Outcome (List Float)
order_five_taken order m vectors output =
    after
    (after (cond (leb 2 order && leb order 5) (given tt) (refused_for Order))
    (after (number_is InputLength (length m) (order * order))
    (after (number_is InputLength (length vectors % order) 0)
    (number_is OutputLength (length output) (length vectors)))))
    (given (each order (move_vector order m) vectors))

-- slip: a point is extended by 0
abbrev pub move_point3_by_zero : Matrix3 → Vector2 → Vector2
move_point3_by_zero m p = let moved = mul_vector3 m (vector3 p.x p.y float0) in vector2 moved.x moved.y

-- ---- the inputs

-- twice along both axes: for vectors of order 2, and for points of order 3
abbrev pub double2 : List Float
double2 = whole 2 ∷ whole 0 ∷ whole 0 ∷ whole 2 ∷ []

abbrev pub double3 : List Float
double3 = whole 2 ∷ whole 0 ∷ whole 0 ∷ whole 0 ∷ whole 2 ∷ whole 0 ∷ whole 0 ∷ whole 0 ∷ whole 1 ∷ []

-- two vectors of two numbers, or two points of order 3
abbrev pub two_pairs : List Float
two_pairs = whole 1 ∷ whole 2 ∷ whole 3 ∷ whole 4 ∷ []

-- an output of n zeros
abbrev pub zeros : ℕ → List Float
zeros n = replicate n float0

-- a point
abbrev pub point : Vector2
point = vector2 (whole 1) (whole 2)

-- ---- what is claimed

-- each parts from the right definition: at an output that fits, at one that is one number short, at a matrix that is one number short besides, at order 5, and at a point
pub record MoveSlips : Type 0 where
  pub writes_nothing_lem : Parts (move_vectors 2 double2 two_pairs) (writes_nothing 2 double2 two_pairs) (zeros 4)
  pub first_moved_lem : Parts (move_vectors 2 double2 two_pairs) (first_moved 2 double2 two_pairs) (zeros 4)
  pub last_skipped_lem : Parts (move_points 3 double3 two_pairs) (last_skipped 3 double3 two_pairs) (zeros 4)
  pub refused_after_writing : Parts (leaves (zeros 3)) (leaves_written two_pairs (zeros 3)) (move_vectors 2 double2 two_pairs (zeros 3))
  pub output_first_lem : Parts (move_vectors 2 (zeros 3) two_pairs) (output_first 2 (zeros 3) two_pairs) (zeros 3)
  pub order_five : Parts (move_vectors 5 (zeros 25) []) (order_five_taken 5 (zeros 25) []) []
  pub extended_by_zero : Parts (move_point3 r6) (move_point3_by_zero r6) point
