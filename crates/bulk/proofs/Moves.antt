-- What a move leaves, vector by vector and point by point.
-- Assumes nothing.
use mathlib.Core.Path.{◌≡◌, refl, sym, ap}
use mathlib.Core.List.{List, []}
use Prim.Native.Nat.{ℕ, zero, suc, ◌*◌, ◌-◌, ◌/◌, ◌%◌, ◌<◌, ◌≤◌}
use native.Mathlib.Nat.{zero-mod, sub-zero}
use native.Mathlib.Omega.{arith}
use lib.Ieee.{Float}
use lib.ListN.{length}
use Rattle.vector.specs.Refusals.{Outcome, given, after, leaves}
use Rattle.vector.specs.Vectors.{of_entries2, of_entries3, of_entries4}
use Rattle.matrix.specs.Arithmetic.{mul_vector2, mul_vector3, mul_vector4}
use Rattle.bulk.specs.Groups.{group, each}
use Rattle.bulk.specs.Moves.{flat2, flat3, flat4, vector_by2, vector_by3, vector_by4, point_by3, point_by4, move_point3, move_point4, move_vector, move_point, move_vectors, move_points}
use Rattle.bulk.specs.Refusals.{lengths_of, move_fits}
use Rattle.bulk.proofs.Checks.{fitting, order_taken, length_right}
use Rattle.bulk.proofs.Groups.{of_each, long_each, none}

-- ---- group by group

-- what is moved is as long as it was
vector_long : (order : ℕ) (m g : List Float) → 2 ≤ order → order ≤ 4 → length (move_vector order m g) ≡ order
unfolding vector_by2 vector_by3 vector_by4
vector_long zero m g least most = absurd (omega arith)
vector_long (suc zero) m g least most = absurd (omega arith)
vector_long (suc (suc zero)) m g least most = refl
vector_long (suc (suc (suc zero))) m g least most = refl
vector_long (suc (suc (suc (suc zero)))) m g least most = refl
vector_long (suc (suc (suc (suc (suc n))))) m g least most = absurd (omega arith)

point_long : (order : ℕ) (m g : List Float) → 3 ≤ order → order ≤ 4 → length (move_point order m g) ≡ order - 1
unfolding point_by3 point_by4
point_long zero m g least most = absurd (omega arith)
point_long (suc zero) m g least most = absurd (omega arith)
point_long (suc (suc zero)) m g least most = absurd (omega arith)
point_long (suc (suc (suc zero))) m g least most = refl
point_long (suc (suc (suc (suc zero)))) m g least most = refl
point_long (suc (suc (suc (suc (suc n))))) m g least most = absurd (omega arith)

-- the list that a move leaves where it is not refused
accepted : (check : Outcome Unit) (before made : List Float) → check ≡ given tt → leaves before (after check (given made)) ≡ made
accepted check before made e = rw e

module _ (order : ℕ) (m input output : List Float) where
  -- vector j of the output is the matrix times vector j of the input
  pub vector_at : move_fits 0 order (lengths_of m input output) ≡ given tt → (j : ℕ) → j < length input / order
      → group order j (leaves output (move_vectors order m input output)) ≡ move_vector order m (group order j input)
  vector_at e j below =
      let f = fitting 0 order _ (sym e) in
      rw (accepted (move_fits 0 order (lengths_of m input output)) output (each order (move_vector order m) input) e)
      (of_each order (move_vector order m) (λ g. vector_long order m g f.least f.most) input j below)

  -- point j of the output is point j of the input, moved
  pub point_at : move_fits 1 order (lengths_of m input output) ≡ given tt → (j : ℕ) → j < length input / (order - 1)
      → group (order - 1) j (leaves output (move_points order m input output)) ≡ move_point order m (group (order - 1) j input)
  point_at e j below =
      let f = fitting 1 order _ (sym e) in
      rw (accepted (move_fits 1 order (lengths_of m input output)) output (each (order - 1) (move_point order m) input) e)
      (of_each (order - 1) (move_point order m) (λ g. point_long order m g f.least f.most) input j below)

  -- there are no further numbers
  pub vectors_long : move_fits 0 order (lengths_of m input output) ≡ given tt → length (leaves output (move_vectors order m input output)) ≡ length input
  vectors_long e =
      let f = fitting 0 order _ (sym e) in
      rw (accepted (move_fits 0 order (lengths_of m input output)) output (each order (move_vector order m) input) e)
      (long_each order (move_vector order m) (λ g. vector_long order m g f.least f.most) input (rw sub-zero at f.whole))

  pub points_long : move_fits 1 order (lengths_of m input output) ≡ given tt → length (leaves output (move_points order m input output)) ≡ length input
  points_long e =
      let f = fitting 1 order _ (sym e) in
      rw (accepted (move_fits 1 order (lengths_of m input output)) output (each (order - 1) (move_point order m) input) e)
      (long_each (order - 1) (move_point order m) (λ g. point_long order m g f.least f.most) input f.whole)

-- ---- the same on the records, order by order

module _ (m input output : List Float) (j : ℕ) where
  pub vector2_at : move_fits 0 2 (lengths_of m input output) ≡ given tt → j < length input / 2
      → of_entries2 (group 2 j (leaves output (move_vectors 2 m input output))) ≡ mul_vector2 (flat2 m) (of_entries2 (group 2 j input))
  unfolding vector_by2
  vector2_at e below = ap of_entries2 (vector_at 2 m input output e j below)

  pub vector3_at : move_fits 0 3 (lengths_of m input output) ≡ given tt → j < length input / 3
      → of_entries3 (group 3 j (leaves output (move_vectors 3 m input output))) ≡ mul_vector3 (flat3 m) (of_entries3 (group 3 j input))
  unfolding vector_by3
  vector3_at e below = ap of_entries3 (vector_at 3 m input output e j below)

  pub vector4_at : move_fits 0 4 (lengths_of m input output) ≡ given tt → j < length input / 4
      → of_entries4 (group 4 j (leaves output (move_vectors 4 m input output))) ≡ mul_vector4 (flat4 m) (of_entries4 (group 4 j input))
  unfolding vector_by4
  vector4_at e below = ap of_entries4 (vector_at 4 m input output e j below)

  pub point3_at : move_fits 1 3 (lengths_of m input output) ≡ given tt → j < length input / 2
      → of_entries2 (group 2 j (leaves output (move_points 3 m input output))) ≡ move_point3 (flat3 m) (of_entries2 (group 2 j input))
  unfolding point_by3
  point3_at e below = ap of_entries2 (point_at 3 m input output e j below)

  pub point4_at : move_fits 1 4 (lengths_of m input output) ≡ given tt → j < length input / 3
      → of_entries3 (group 3 j (leaves output (move_points 4 m input output))) ≡ move_point4 (flat4 m) (of_entries3 (group 3 j input))
  unfolding point_by4
  point4_at e below = ap of_entries3 (point_at 4 m input output e j below)

-- ---- no vectors, no points: accepted, and nothing is written

module _ (order : ℕ) (m : List Float) (most : order ≤ 4) (square : length m ≡ order * order) where
  pub no_vectors : 2 ≤ order → move_vectors order m [] [] ≡ given []
  unfolding move_fits
  no_vectors least =
      rw
      (order_taken 2 order least most, length_right _ (length m) (order * order) square, length_right _ (0 % (order - 0)) 0 (zero-mod _), length_right _ 0 0 refl, none order (omega arith) (move_vector order m))

  pub no_points : 3 ≤ order → move_points order m [] [] ≡ given []
  unfolding move_fits
  no_points least =
      rw
      (order_taken 3 order least most, length_right _ (length m) (order * order) square, length_right _ (0 % (order - 1)) 0 (zero-mod _), length_right _ 0 0 refl, none (order - 1) (omega arith) (move_point order m))
