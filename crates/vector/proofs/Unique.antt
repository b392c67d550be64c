-- Any two outcomes that a promise allows are equal: each public function of this crate, over its own promise.
-- Assumes nothing.
use Rattle.std.specs.Prelude.{Float}
use Rattle.vector.specs.Arithmetic.{Computes, Computes₂}
use Rattle.vector.proofs.Answers.{vector3_one}
use Rattle.vector.proofs.Decided.{Decided, DecidedWhere, value, computed, meaning}
use Rattle.vector.proofs.Vector2
use Rattle.vector.proofs.Vector3
use Rattle.vector.proofs.Vector4
use Rattle.vector.proofs.Vector2VectorSpace
use Rattle.vector.proofs.Vector2Vector
use Rattle.vector.proofs.Vector3VectorSpace
use Rattle.vector.proofs.Vector3Vector
use Rattle.vector.proofs.Vector4VectorSpace
use Rattle.vector.proofs.Vector4Vector
use Rattle.vector.proofs.refusal.Refusal

pub vector2_new : Decided Vector2.new.Reads.Learnt
vector2_new = value

pub vector2_dot : Decided Vector2Vector.dot.Reads.Learnt
vector2_dot = value

pub vector3_new : Decided Vector3.new.Reads.Learnt
vector3_new = value

pub vector3_dot : Decided Vector3Vector.dot.Reads.Learnt
vector3_dot = value

pub vector3_cross : Decided Vector3.cross.Reads.Learnt
vector3_cross = value

pub vector4_new : Decided Vector4.new.Reads.Learnt
vector4_new = value

pub vector4_dot : Decided Vector4Vector.dot.Reads.Learnt
vector4_dot = value

pub vector4_truncate_n : Decided Vector4.truncate_n.Reads.Learnt
vector4_truncate_n = meaning vector3_one

pub refusal_place : Decided Refusal.place.Reads.Learnt
refusal_place = value

pub refusal_number : Decided Refusal.number.Reads.Learnt
refusal_number = value

-- ---- space.rt, at each record

pub vector2_add : Decided Vector2VectorSpace.add.Reads.Learnt
vector2_add = value

pub vector2_sub : Decided Vector2VectorSpace.sub.Reads.Learnt
vector2_sub = value

pub vector2_neg : Decided Vector2VectorSpace.neg.Reads.Learnt
vector2_neg = value

pub vector2_scalar_mul : Decided Vector2VectorSpace.scalar_mul.Reads.Learnt
vector2_scalar_mul = value

pub vector2_scalar_div : Decided Vector2VectorSpace.scalar_div.Reads.Learnt
vector2_scalar_div = value

pub vector2_mul_scalar : Decided Vector2VectorSpace.mul_scalar.Reads.Learnt
vector2_mul_scalar = value

pub vector2_div_scalar : Decided Vector2VectorSpace.div_scalar.Reads.Learnt
vector2_div_scalar = value

pub vector3_add : Decided Vector3VectorSpace.add.Reads.Learnt
vector3_add = value

pub vector3_sub : Decided Vector3VectorSpace.sub.Reads.Learnt
vector3_sub = value

pub vector3_neg : Decided Vector3VectorSpace.neg.Reads.Learnt
vector3_neg = value

pub vector3_scalar_mul : Decided Vector3VectorSpace.scalar_mul.Reads.Learnt
vector3_scalar_mul = value

pub vector3_scalar_div : Decided Vector3VectorSpace.scalar_div.Reads.Learnt
vector3_scalar_div = value

pub vector3_mul_scalar : Decided Vector3VectorSpace.mul_scalar.Reads.Learnt
vector3_mul_scalar = value

pub vector3_div_scalar : Decided Vector3VectorSpace.div_scalar.Reads.Learnt
vector3_div_scalar = value

pub vector4_add : Decided Vector4VectorSpace.add.Reads.Learnt
vector4_add = value

pub vector4_sub : Decided Vector4VectorSpace.sub.Reads.Learnt
vector4_sub = value

pub vector4_neg : Decided Vector4VectorSpace.neg.Reads.Learnt
vector4_neg = value

pub vector4_scalar_mul : Decided Vector4VectorSpace.scalar_mul.Reads.Learnt
vector4_scalar_mul = value

pub vector4_scalar_div : Decided Vector4VectorSpace.scalar_div.Reads.Learnt
vector4_scalar_div = value

pub vector4_mul_scalar : Decided Vector4VectorSpace.mul_scalar.Reads.Learnt
vector4_mul_scalar = value

pub vector4_div_scalar : Decided Vector4VectorSpace.div_scalar.Reads.Learnt
vector4_div_scalar = value

pub vector2_map : (T : _) (L : _) (C : _) (F : _) (d1 d2 d3 : _) (K : _) (d4 : _) → DecidedWhere (λ κ a. (f : Float → Float) × Computes (λ x r. F.post a.1.0 (x, tt) r) f) (Vector2VectorSpace.map.Reads.Learnt T L C F d1 d2 d3 K d4)
vector2_map T L C F d1 d2 d3 K d4 = computed

pub vector2_zip : (T : _) (L : _) (C : _) (F : _) (d1 d2 d3 : _) (K : _) (d4 : _) → DecidedWhere (λ κ a. (f : Float → Float → Float) × Computes₂ (λ x y r. F.post a.1.1.0 (x, (y, tt)) r) f) (Vector2VectorSpace.zip.Reads.Learnt T L C F d1 d2 d3 K d4)
vector2_zip T L C F d1 d2 d3 K d4 = computed

pub vector3_map : (T : _) (L : _) (C : _) (F : _) (d1 d2 d3 : _) (K : _) (d4 : _) → DecidedWhere (λ κ a. (f : Float → Float) × Computes (λ x r. F.post a.1.0 (x, tt) r) f) (Vector3VectorSpace.map.Reads.Learnt T L C F d1 d2 d3 K d4)
vector3_map T L C F d1 d2 d3 K d4 = computed

pub vector3_zip : (T : _) (L : _) (C : _) (F : _) (d1 d2 d3 : _) (K : _) (d4 : _) → DecidedWhere (λ κ a. (f : Float → Float → Float) × Computes₂ (λ x y r. F.post a.1.1.0 (x, (y, tt)) r) f) (Vector3VectorSpace.zip.Reads.Learnt T L C F d1 d2 d3 K d4)
vector3_zip T L C F d1 d2 d3 K d4 = computed

pub vector4_map : (T : _) (L : _) (C : _) (F : _) (d1 d2 d3 : _) (K : _) (d4 : _) → DecidedWhere (λ κ a. (f : Float → Float) × Computes (λ x r. F.post a.1.0 (x, tt) r) f) (Vector4VectorSpace.map.Reads.Learnt T L C F d1 d2 d3 K d4)
vector4_map T L C F d1 d2 d3 K d4 = computed

pub vector4_zip : (T : _) (L : _) (C : _) (F : _) (d1 d2 d3 : _) (K : _) (d4 : _) → DecidedWhere (λ κ a. (f : Float → Float → Float) × Computes₂ (λ x y r. F.post a.1.1.0 (x, (y, tt)) r) f) (Vector4VectorSpace.zip.Reads.Learnt T L C F d1 d2 d3 K d4)
vector4_zip T L C F d1 d2 d3 K d4 = computed

pub vector2_length : Decided Vector2Vector.LENGTH.Reads.Learnt
vector2_length = value

pub vector2_from_value : Decided Vector2Vector.from_value.Reads.Learnt
vector2_from_value = value

pub vector3_length : Decided Vector3Vector.LENGTH.Reads.Learnt
vector3_length = value

pub vector3_from_value : Decided Vector3Vector.from_value.Reads.Learnt
vector3_from_value = value

pub vector4_length : Decided Vector4Vector.LENGTH.Reads.Learnt
vector4_length = value

pub vector4_from_value : Decided Vector4Vector.from_value.Reads.Learnt
vector4_from_value = value
