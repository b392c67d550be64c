-- Document 01, 'Promises with nothing loose': definitions that demand 3 itself stops, put in the place of the port's.
-- So it is the statements of engine/specs/Demand.antt that stop them, whatever the proofs look like. Assumes nothing.
use Rattle.std.specs.Prelude.{ℕ, Float}
use Rattle.vector.specs.Arithmetic.{◌⊗◌, ◌⊘◌, float1}
use Rattle.vector.specs.Refusals.{Outcome, given, refused_for, after}
use Rattle.vector.specs.Vectors.{vector4}
use Rattle.vector.specs.declared.refusal.Refusal.TheVariants.{Singular}
use Rattle.vector.specs.declared.Vector4.{Vector4}
use Rattle.matrix.specs.Records.{matrix4, identity2}
use Rattle.matrix.specs.Places.{transpose4}
use Rattle.matrix.specs.Inverse.{det3, det4, nonzero, without_place}
use Rattle.matrix.specs.declared.records.Matrix2.{Matrix2}
use Rattle.matrix.specs.declared.records.Matrix4.{Matrix4}
use Rattle.engine.specs.Demand.{Port, port2, port4, DeterminantIsSum, RefusedExactly, InverseUndoes}

-- ---- the slips

-- slip: an invert that refuses everything
abbrev pub invert2_refuses_all : Matrix2 → Outcome Matrix2
invert2_refuses_all m = refused_for Singular

-- slip: an invert that always hands out the identity
abbrev pub invert2_identity : Matrix2 → Outcome Matrix2
invert2_identity m = given identity2

-- slip: a determinant fixed at 1
abbrev pub det2_fixed : Matrix2 → Float
det2_fixed m = float1

-- column i of the order 4 inverse, its minors without their signs
abbrev pub unsigned_column : Matrix4 → Float → ℕ → Vector4
unsigned_column t invDet i =
    vector4 (det3 (without_place t i 0) ⊗ invDet) (det3 (without_place t i 1) ⊗ invDet) (det3 (without_place t i 2) ⊗ invDet) (det3 (without_place t i 3) ⊗ invDet)

-- that inverse
abbrev pub inverse4_unsigned : Matrix4 → Float → Matrix4
inverse4_unsigned m d =
    let column = unsigned_column (transpose4 m) (float1 ⊘ d) in matrix4 (column 0) (column 1) (column 2) (column 3)

-- slip: an order 4 inverse without the signs
abbrev pub invert4_unsigned : Matrix4 → Outcome Matrix4
invert4_unsigned m = after (nonzero (det4 m)) (given (inverse4_unsigned m (det4 m)))

-- ---- in the port's place

-- a port with another inversion
abbrev pub with_invert : (p : Port) → (p.Matrix → Outcome p.Matrix) → Port
with_invert p other =
    record {
      order = p.order;
      Matrix = p.Matrix;
      Vector = p.Vector;
      entries = p.entries;
      places = p.places;
      determinant = p.determinant;
      invert = other;
      product = p.product;
      times_vector = p.times_vector;
      identity = p.identity;
    }

-- a port with another determinant
abbrev pub with_determinant : (p : Port) → (p.Matrix → Float) → Port
with_determinant p other =
    record {
      order = p.order;
      Matrix = p.Matrix;
      Vector = p.Vector;
      entries = p.entries;
      places = p.places;
      determinant = other;
      invert = p.invert;
      product = p.product;
      times_vector = p.times_vector;
      identity = p.identity;
    }

-- ---- what is claimed

-- each breaks a line of the demand: the refusal rule, the product rule, the signed sum
pub record DemandSlips : Type 0 where
  pub refuses_all : ¬ RefusedExactly (with_invert port2 invert2_refuses_all) 1024
  pub gives_identity : ¬ InverseUndoes (with_invert port2 invert2_identity) 1024 32768
  pub determinant_one : ¬ DeterminantIsSum (with_determinant port2 det2_fixed) 1024
  pub no_sign : ¬ InverseUndoes (with_invert port4 invert4_unsigned) 1024 64
