-- Any two outcomes that a promise allows are equal: each public function of this crate, over its own promise.
-- Assumes nothing.
use Rattle.std.specs.Prelude.{Float}
use Rattle.vector.specs.Arithmetic.{Computes, Computes₂}
use Rattle.vector.proofs.Answers.{outcome_one}
use Rattle.vector.proofs.Decided.{Decided, DecidedLent, DecidedWhere, value, computed, meaning, meaning_lent}
use Rattle.matrix.proofs.arithmetic.Matrix2VectorSpace
use Rattle.matrix.proofs.arithmetic.Matrix3VectorSpace
use Rattle.matrix.proofs.arithmetic.Matrix4VectorSpace
use Rattle.matrix.proofs.square.Matrix2SquareMatrix
use Rattle.matrix.proofs.places.Matrix2Matrix2
use Rattle.matrix.proofs.inverse.Matrix2Invert
use Rattle.matrix.proofs.square.Matrix3SquareMatrix
use Rattle.matrix.proofs.places.Matrix3Matrix3
use Rattle.matrix.proofs.inverse.Matrix3Invert
use Rattle.matrix.proofs.square.Matrix4SquareMatrix
use Rattle.matrix.proofs.places.Matrix4Matrix4
use Rattle.matrix.proofs.inverse.Matrix4Invert
use Rattle.matrix.proofs.records.Matrix3FromMatrix2
use Rattle.matrix.proofs.records.Matrix4FromMatrix2
use Rattle.matrix.proofs.records.Matrix4FromMatrix3
use Rattle.matrix.proofs.rotations.Matrix3Rotation
use Rattle.matrix.proofs.rotations.Matrix4Rotation
use Rattle.matrix.proofs.records.Matrix2
use Rattle.matrix.proofs.records.Matrix3
use Rattle.matrix.proofs.records.Matrix4

-- ---- records.rt

pub matrix2_order : Decided Matrix2SquareMatrix.ORDER.Reads.Learnt
matrix2_order = value

pub matrix2_zero : Decided Matrix2SquareMatrix.ZERO.Reads.Learnt
matrix2_zero = value

pub matrix2_identity : Decided Matrix2SquareMatrix.IDENTITY.Reads.Learnt
matrix2_identity = value

pub matrix2_new : Decided Matrix2.new.Reads.Learnt
matrix2_new = value

pub matrix2_from_cols : Decided Matrix2.from_cols.Reads.Learnt
matrix2_from_cols = value

pub matrix2_from_scale : Decided Matrix2.from_scale.Reads.Learnt
matrix2_from_scale = value

pub matrix2_into_array : Decided Matrix2Matrix2.into_array.Reads.Learnt
matrix2_into_array = value

pub matrix2_from_array : Decided Matrix2Matrix2.from_array.Reads.Learnt
matrix2_from_array = value

pub matrix2_from_value : Decided Matrix2SquareMatrix.from_value.Reads.Learnt
matrix2_from_value = value

pub matrix2_from_diagonal : Decided Matrix2SquareMatrix.from_diagonal.Reads.Learnt
matrix2_from_diagonal = value

pub matrix3_order : Decided Matrix3SquareMatrix.ORDER.Reads.Learnt
matrix3_order = value

pub matrix3_zero : Decided Matrix3SquareMatrix.ZERO.Reads.Learnt
matrix3_zero = value

pub matrix3_identity : Decided Matrix3SquareMatrix.IDENTITY.Reads.Learnt
matrix3_identity = value

pub matrix3_new : Decided Matrix3.new.Reads.Learnt
matrix3_new = value

pub matrix3_from_cols : Decided Matrix3.from_cols.Reads.Learnt
matrix3_from_cols = value

pub matrix3_from_translation : Decided Matrix3.from_translation.Reads.Learnt
matrix3_from_translation = value

pub matrix3_from_scale : Decided Matrix3.from_scale.Reads.Learnt
matrix3_from_scale = value

pub matrix3_from_nonuniform_scale : Decided Matrix3.from_nonuniform_scale.Reads.Learnt
matrix3_from_nonuniform_scale = value

pub matrix3_into_array : Decided Matrix3Matrix3.into_array.Reads.Learnt
matrix3_into_array = value

pub matrix3_from_array : Decided Matrix3Matrix3.from_array.Reads.Learnt
matrix3_from_array = value

pub matrix3_from_value : Decided Matrix3SquareMatrix.from_value.Reads.Learnt
matrix3_from_value = value

pub matrix3_from_diagonal : Decided Matrix3SquareMatrix.from_diagonal.Reads.Learnt
matrix3_from_diagonal = value

pub matrix3_from_matrix2 : Decided Matrix3FromMatrix2.from.Reads.Learnt
matrix3_from_matrix2 = value

pub matrix4_order : Decided Matrix4SquareMatrix.ORDER.Reads.Learnt
matrix4_order = value

pub matrix4_zero : Decided Matrix4SquareMatrix.ZERO.Reads.Learnt
matrix4_zero = value

pub matrix4_identity : Decided Matrix4SquareMatrix.IDENTITY.Reads.Learnt
matrix4_identity = value

pub matrix4_new : Decided Matrix4.new.Reads.Learnt
matrix4_new = value

pub matrix4_from_cols : Decided Matrix4.from_cols.Reads.Learnt
matrix4_from_cols = value

pub matrix4_from_translation : Decided Matrix4.from_translation.Reads.Learnt
matrix4_from_translation = value

pub matrix4_from_scale : Decided Matrix4.from_scale.Reads.Learnt
matrix4_from_scale = value

pub matrix4_from_nonuniform_scale : Decided Matrix4.from_nonuniform_scale.Reads.Learnt
matrix4_from_nonuniform_scale = value

pub matrix4_into_array : Decided Matrix4Matrix4.into_array.Reads.Learnt
matrix4_into_array = value

pub matrix4_from_array : Decided Matrix4Matrix4.from_array.Reads.Learnt
matrix4_from_array = value

pub matrix4_from_value : Decided Matrix4SquareMatrix.from_value.Reads.Learnt
matrix4_from_value = value

pub matrix4_from_diagonal : Decided Matrix4SquareMatrix.from_diagonal.Reads.Learnt
matrix4_from_diagonal = value

pub matrix4_from_matrix2 : Decided Matrix4FromMatrix2.from.Reads.Learnt
matrix4_from_matrix2 = value

pub matrix4_from_matrix3 : Decided Matrix4FromMatrix3.from.Reads.Learnt
matrix4_from_matrix3 = value

-- ---- places.rt

pub matrix2_row : Decided Matrix2Matrix2.row.Reads.Learnt
matrix2_row = meaning outcome_one

pub matrix2_diagonal : Decided Matrix2Matrix2.diagonal.Reads.Learnt
matrix2_diagonal = value

pub matrix2_transpose : Decided Matrix2Matrix2.transpose.Reads.Learnt
matrix2_transpose = value

pub matrix2_swap_rows : Decided Matrix2Matrix2.swap_rows.Reads.Learnt
matrix2_swap_rows = meaning outcome_one

pub matrix2_swap_columns : Decided Matrix2Matrix2.swap_columns.Reads.Learnt
matrix2_swap_columns = meaning outcome_one

pub matrix2_swap_elements : Decided Matrix2Matrix2.swap_elements.Reads.Learnt
matrix2_swap_elements = meaning outcome_one

pub matrix3_row : Decided Matrix3Matrix3.row.Reads.Learnt
matrix3_row = meaning outcome_one

pub matrix3_diagonal : Decided Matrix3Matrix3.diagonal.Reads.Learnt
matrix3_diagonal = value

pub matrix3_transpose : Decided Matrix3Matrix3.transpose.Reads.Learnt
matrix3_transpose = value

pub matrix3_swap_rows : Decided Matrix3Matrix3.swap_rows.Reads.Learnt
matrix3_swap_rows = meaning outcome_one

pub matrix3_swap_columns : Decided Matrix3Matrix3.swap_columns.Reads.Learnt
matrix3_swap_columns = meaning outcome_one

pub matrix3_swap_elements : Decided Matrix3Matrix3.swap_elements.Reads.Learnt
matrix3_swap_elements = meaning outcome_one

pub matrix4_row : Decided Matrix4Matrix4.row.Reads.Learnt
matrix4_row = meaning outcome_one

pub matrix4_diagonal : Decided Matrix4Matrix4.diagonal.Reads.Learnt
matrix4_diagonal = value

pub matrix4_transpose : Decided Matrix4Matrix4.transpose.Reads.Learnt
matrix4_transpose = value

pub matrix4_swap_rows : Decided Matrix4Matrix4.swap_rows.Reads.Learnt
matrix4_swap_rows = meaning outcome_one

pub matrix4_swap_columns : Decided Matrix4Matrix4.swap_columns.Reads.Learnt
matrix4_swap_columns = meaning outcome_one

pub matrix4_swap_elements : Decided Matrix4Matrix4.swap_elements.Reads.Learnt
matrix4_swap_elements = meaning outcome_one

-- ---- in_place.rt

pub matrix4_swap_rows_mut : DecidedLent Matrix4.swap_rows_mut.Reads.Learnt (λ κ s. s.0.now)
matrix4_swap_rows_mut = meaning_lent outcome_one

pub matrix4_swap_columns_mut : DecidedLent Matrix4.swap_columns_mut.Reads.Learnt (λ κ s. s.0.now)
matrix4_swap_columns_mut = meaning_lent outcome_one

pub matrix4_swap_elements_mut : DecidedLent Matrix4.swap_elements_mut.Reads.Learnt (λ κ s. s.0.now)
matrix4_swap_elements_mut = meaning_lent outcome_one

-- ---- arithmetic.rt

pub matrix2_map : (T : _) (L : _) (C : _) (F : _) (d1 d2 d3 : _) (K : _) (d4 : _) → DecidedWhere (λ κ a. (f : Float → Float) × Computes (λ x r. F.post a.1.0 (x, tt) r) f) (Matrix2VectorSpace.map.Reads.Learnt T L C F d1 d2 d3 K d4)
matrix2_map T L C F d1 d2 d3 K d4 = computed

pub matrix2_zip : (T : _) (L : _) (C : _) (F : _) (d1 d2 d3 : _) (K : _) (d4 : _) → DecidedWhere (λ κ a. (f : Float → Float → Float) × Computes₂ (λ x y r. F.post a.1.1.0 (x, (y, tt)) r) f) (Matrix2VectorSpace.zip.Reads.Learnt T L C F d1 d2 d3 K d4)
matrix2_zip T L C F d1 d2 d3 K d4 = computed

pub matrix2_add : Decided Matrix2VectorSpace.add.Reads.Learnt
matrix2_add = value

pub matrix2_sub : Decided Matrix2VectorSpace.sub.Reads.Learnt
matrix2_sub = value

pub matrix2_scalar_mul : Decided Matrix2VectorSpace.scalar_mul.Reads.Learnt
matrix2_scalar_mul = value

pub matrix2_scalar_div : Decided Matrix2VectorSpace.scalar_div.Reads.Learnt
matrix2_scalar_div = value

pub matrix2_mul_vector : Decided Matrix2SquareMatrix.mul_vector.Reads.Learnt
matrix2_mul_vector = value

pub matrix2_mul : Decided Matrix2SquareMatrix.mul.Reads.Learnt
matrix2_mul = value

pub matrix2_neg : Decided Matrix2VectorSpace.neg.Reads.Learnt
matrix2_neg = value

pub matrix2_mul_scalar : Decided Matrix2VectorSpace.mul_scalar.Reads.Learnt
matrix2_mul_scalar = value

pub matrix2_div_scalar : Decided Matrix2VectorSpace.div_scalar.Reads.Learnt
matrix2_div_scalar = value

pub matrix3_map : (T : _) (L : _) (C : _) (F : _) (d1 d2 d3 : _) (K : _) (d4 : _) → DecidedWhere (λ κ a. (f : Float → Float) × Computes (λ x r. F.post a.1.0 (x, tt) r) f) (Matrix3VectorSpace.map.Reads.Learnt T L C F d1 d2 d3 K d4)
matrix3_map T L C F d1 d2 d3 K d4 = computed

pub matrix3_zip : (T : _) (L : _) (C : _) (F : _) (d1 d2 d3 : _) (K : _) (d4 : _) → DecidedWhere (λ κ a. (f : Float → Float → Float) × Computes₂ (λ x y r. F.post a.1.1.0 (x, (y, tt)) r) f) (Matrix3VectorSpace.zip.Reads.Learnt T L C F d1 d2 d3 K d4)
matrix3_zip T L C F d1 d2 d3 K d4 = computed

pub matrix3_add : Decided Matrix3VectorSpace.add.Reads.Learnt
matrix3_add = value

pub matrix3_sub : Decided Matrix3VectorSpace.sub.Reads.Learnt
matrix3_sub = value

pub matrix3_scalar_mul : Decided Matrix3VectorSpace.scalar_mul.Reads.Learnt
matrix3_scalar_mul = value

pub matrix3_scalar_div : Decided Matrix3VectorSpace.scalar_div.Reads.Learnt
matrix3_scalar_div = value

pub matrix3_mul_vector : Decided Matrix3SquareMatrix.mul_vector.Reads.Learnt
matrix3_mul_vector = value

pub matrix3_mul : Decided Matrix3SquareMatrix.mul.Reads.Learnt
matrix3_mul = value

pub matrix3_neg : Decided Matrix3VectorSpace.neg.Reads.Learnt
matrix3_neg = value

pub matrix3_mul_scalar : Decided Matrix3VectorSpace.mul_scalar.Reads.Learnt
matrix3_mul_scalar = value

pub matrix3_div_scalar : Decided Matrix3VectorSpace.div_scalar.Reads.Learnt
matrix3_div_scalar = value

pub matrix4_map : (T : _) (L : _) (C : _) (F : _) (d1 d2 d3 : _) (K : _) (d4 : _) → DecidedWhere (λ κ a. (f : Float → Float) × Computes (λ x r. F.post a.1.0 (x, tt) r) f) (Matrix4VectorSpace.map.Reads.Learnt T L C F d1 d2 d3 K d4)
matrix4_map T L C F d1 d2 d3 K d4 = computed

pub matrix4_zip : (T : _) (L : _) (C : _) (F : _) (d1 d2 d3 : _) (K : _) (d4 : _) → DecidedWhere (λ κ a. (f : Float → Float → Float) × Computes₂ (λ x y r. F.post a.1.1.0 (x, (y, tt)) r) f) (Matrix4VectorSpace.zip.Reads.Learnt T L C F d1 d2 d3 K d4)
matrix4_zip T L C F d1 d2 d3 K d4 = computed

pub matrix4_add : Decided Matrix4VectorSpace.add.Reads.Learnt
matrix4_add = value

pub matrix4_sub : Decided Matrix4VectorSpace.sub.Reads.Learnt
matrix4_sub = value

pub matrix4_scalar_mul : Decided Matrix4VectorSpace.scalar_mul.Reads.Learnt
matrix4_scalar_mul = value

pub matrix4_scalar_div : Decided Matrix4VectorSpace.scalar_div.Reads.Learnt
matrix4_scalar_div = value

pub matrix4_mul_vector : Decided Matrix4SquareMatrix.mul_vector.Reads.Learnt
matrix4_mul_vector = value

pub matrix4_mul : Decided Matrix4SquareMatrix.mul.Reads.Learnt
matrix4_mul = value

pub matrix4_neg : Decided Matrix4VectorSpace.neg.Reads.Learnt
matrix4_neg = value

pub matrix4_mul_scalar : Decided Matrix4VectorSpace.mul_scalar.Reads.Learnt
matrix4_mul_scalar = value

pub matrix4_div_scalar : Decided Matrix4VectorSpace.div_scalar.Reads.Learnt
matrix4_div_scalar = value

-- ---- inverse.rt

pub matrix2_determinant : Decided Matrix2Invert.determinant.Reads.Learnt
matrix2_determinant = value

pub matrix2_inverse_by : Decided Matrix2Invert.inverse_by.Reads.Learnt
matrix2_inverse_by = value

pub matrix2_invert : Decided Matrix2Invert.invert.Reads.Learnt
matrix2_invert = meaning outcome_one

pub matrix3_determinant : Decided Matrix3Invert.determinant.Reads.Learnt
matrix3_determinant = value

pub matrix3_inverse_by : Decided Matrix3Invert.inverse_by.Reads.Learnt
matrix3_inverse_by = value

pub matrix3_invert : Decided Matrix3Invert.invert.Reads.Learnt
matrix3_invert = meaning outcome_one

pub matrix4_determinant : Decided Matrix4Invert.determinant.Reads.Learnt
matrix4_determinant = value

pub matrix4_inverse_by : Decided Matrix4Invert.inverse_by.Reads.Learnt
matrix4_inverse_by = value

pub matrix4_invert : Decided Matrix4Invert.invert.Reads.Learnt
matrix4_invert = meaning outcome_one

-- ---- rotations.rt

pub matrix2_from_angle : Decided Matrix2.from_angle.Reads.Learnt
matrix2_from_angle = value

pub matrix3_from_angle_x : Decided Matrix3Rotation.from_angle_x.Reads.Learnt
matrix3_from_angle_x = value

pub matrix3_from_angle_y : Decided Matrix3Rotation.from_angle_y.Reads.Learnt
matrix3_from_angle_y = value

pub matrix3_from_angle_z : Decided Matrix3Rotation.from_angle_z.Reads.Learnt
matrix3_from_angle_z = value

pub matrix3_from_axis_angle : Decided Matrix3Rotation.from_axis_angle.Reads.Learnt
matrix3_from_axis_angle = value

pub matrix4_from_angle_x : Decided Matrix4Rotation.from_angle_x.Reads.Learnt
matrix4_from_angle_x = value

pub matrix4_from_angle_y : Decided Matrix4Rotation.from_angle_y.Reads.Learnt
matrix4_from_angle_y = value

pub matrix4_from_angle_z : Decided Matrix4Rotation.from_angle_z.Reads.Learnt
matrix4_from_angle_z = value

pub matrix4_from_axis_angle : Decided Matrix4Rotation.from_axis_angle.Reads.Learnt
matrix4_from_axis_angle = value

pub matrix3_of : Decided Matrix3Rotation.of.Reads.Learnt
matrix3_of = value

pub matrix4_of : Decided Matrix4Rotation.of.Reads.Learnt
matrix4_of = value
