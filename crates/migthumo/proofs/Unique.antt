-- Any two outcomes that a promise allows are equal: each public function of this crate, over its own promise.
-- Assumes nothing.
use mathlib.Core.Path.{sym, ◌∙◌}
use mathlib.Core.List.{List}
use Prim.Native.Nat.{ℕ}
use lib.Ieee.{Float}
use Rattle.vector.specs.Refusals.{Outcome}
use Rattle.vector.proofs.Decided.{Decided, DecidedLent, value}
use Rattle.migthumo.specs.Entries.{Answers}
use Rattle.migthumo.proofs.arithmetic
use Rattle.migthumo.proofs.components
use Rattle.migthumo.proofs.sums
use Rattle.migthumo.proofs.in_place
use Rattle.migthumo.proofs.inverse
use Rattle.migthumo.proofs.moves
use Rattle.migthumo.proofs.places
use Rattle.migthumo.proofs.records
use Rattle.migthumo.proofs.rotations
use Rattle.migthumo.proofs.version

-- the form of every promise here: the number answered and what is left, as one outcome
pub answers : {K : Type 0} {A S : K → Type 0} {B : Type 0} {entry : (κ : K) → A κ → B} {lent : (κ : K) → S κ → B} {outcome : (κ : K) → A κ → Outcome B}
    → DecidedLent (λ κ a x s. Answers x (entry κ a) (lent κ s) (outcome κ a)) lent
answers = record { decided = λ κ a x y s t p q. (p.answer ∙ sym q.answer, p.left ∙ sym q.left) }

-- ---- arithmetic.rt

pub migthumo_product : DecidedLent arithmetic.migthumo_product.Reads.Learnt (λ κ s. s.1.1.1.0.now)
migthumo_product = answers

pub migthumo_add : DecidedLent arithmetic.migthumo_add.Reads.Learnt (λ κ s. s.1.1.1.0.now)
migthumo_add = answers

pub migthumo_subtract : DecidedLent arithmetic.migthumo_subtract.Reads.Learnt (λ κ s. s.1.1.1.0.now)
migthumo_subtract = answers

pub migthumo_scale : DecidedLent arithmetic.migthumo_scale.Reads.Learnt (λ κ s. s.1.1.1.0.now)
migthumo_scale = answers

pub migthumo_divide : DecidedLent arithmetic.migthumo_divide.Reads.Learnt (λ κ s. s.1.1.1.0.now)
migthumo_divide = answers

pub migthumo_scale_by : DecidedLent arithmetic.migthumo_scale_by.Reads.Learnt (λ κ s. s.1.1.1.0.now)
migthumo_scale_by = answers

pub migthumo_divide_by : DecidedLent arithmetic.migthumo_divide_by.Reads.Learnt (λ κ s. s.1.1.1.0.now)
migthumo_divide_by = answers

pub migthumo_negate : DecidedLent arithmetic.migthumo_negate.Reads.Learnt (λ κ s. s.1.1.0.now)
migthumo_negate = answers

-- ---- components.rt

pub migthumo_read_component : DecidedLent {L = λ κ. List ℕ × List Float} components.migthumo_read_component.Reads.Learnt (λ κ s. (s.1.1.0.now, s.1.1.1.0.now))
migthumo_read_component = answers

-- ---- sums.rt

pub migthumo_signed_sum : DecidedLent sums.migthumo_signed_sum.Reads.Learnt (λ κ s. s.1.1.0.now)
migthumo_signed_sum = answers

pub migthumo_undoable : DecidedLent sums.migthumo_undoable.Reads.Learnt (λ κ s. s.1.1.0.now)
migthumo_undoable = answers

-- ---- in_place.rt

pub migthumo_swap_rows_mut : DecidedLent in_place.migthumo_swap_rows_mut.Reads.Learnt (λ κ s. s.0.now)
migthumo_swap_rows_mut = answers

pub migthumo_swap_columns_mut : DecidedLent in_place.migthumo_swap_columns_mut.Reads.Learnt (λ κ s. s.0.now)
migthumo_swap_columns_mut = answers

pub migthumo_swap_elements_mut : DecidedLent in_place.migthumo_swap_elements_mut.Reads.Learnt (λ κ s. s.0.now)
migthumo_swap_elements_mut = answers

-- ---- inverse.rt

pub migthumo_determinant : DecidedLent inverse.migthumo_determinant.Reads.Learnt (λ κ s. s.1.1.0.now)
migthumo_determinant = answers

pub migthumo_invert : DecidedLent inverse.migthumo_invert.Reads.Learnt (λ κ s. s.1.1.0.now)
migthumo_invert = answers

-- ---- moves.rt

pub migthumo_move_vectors : DecidedLent moves.migthumo_move_vectors.Reads.Learnt (λ κ s. s.1.1.1.0.now)
migthumo_move_vectors = answers

pub migthumo_move_points : DecidedLent moves.migthumo_move_points.Reads.Learnt (λ κ s. s.1.1.1.0.now)
migthumo_move_points = answers

-- ---- places.rt

pub migthumo_row : DecidedLent places.migthumo_row.Reads.Learnt (λ κ s. s.1.1.1.0.now)
migthumo_row = answers

pub migthumo_diagonal : DecidedLent places.migthumo_diagonal.Reads.Learnt (λ κ s. s.1.1.0.now)
migthumo_diagonal = answers

pub migthumo_transpose : DecidedLent places.migthumo_transpose.Reads.Learnt (λ κ s. s.1.1.0.now)
migthumo_transpose = answers

pub migthumo_swap_rows : DecidedLent places.migthumo_swap_rows.Reads.Learnt (λ κ s. s.1.1.1.1.0.now)
migthumo_swap_rows = answers

pub migthumo_swap_columns : DecidedLent places.migthumo_swap_columns.Reads.Learnt (λ κ s. s.1.1.1.1.0.now)
migthumo_swap_columns = answers

pub migthumo_swap_elements : DecidedLent places.migthumo_swap_elements.Reads.Learnt (λ κ s. s.1.1.1.1.1.1.0.now)
migthumo_swap_elements = answers

-- ---- records.rt

pub migthumo_embed : DecidedLent records.migthumo_embed.Reads.Learnt (λ κ s. s.1.1.1.0.now)
migthumo_embed = answers

-- ---- rotations.rt

pub migthumo_from_angle : DecidedLent rotations.migthumo_from_angle.Reads.Learnt (λ κ s. s.1.1.0.now)
migthumo_from_angle = answers

pub migthumo_from_angle_x : DecidedLent rotations.migthumo_from_angle_x.Reads.Learnt (λ κ s. s.1.1.1.0.now)
migthumo_from_angle_x = answers

pub migthumo_from_angle_y : DecidedLent rotations.migthumo_from_angle_y.Reads.Learnt (λ κ s. s.1.1.1.0.now)
migthumo_from_angle_y = answers

pub migthumo_from_angle_z : DecidedLent rotations.migthumo_from_angle_z.Reads.Learnt (λ κ s. s.1.1.1.0.now)
migthumo_from_angle_z = answers

pub migthumo_from_axis_angle : DecidedLent rotations.migthumo_from_axis_angle.Reads.Learnt (λ κ s. s.1.1.1.1.1.1.0.now)
migthumo_from_axis_angle = answers

-- ---- version.rt

pub migthumo_version : Decided version.migthumo_version.Reads.Learnt
migthumo_version = value
