-- Demand 3 of the three that stand over the whole project (README.md has it in full), line by line; what stands in quotation marks is its text.
-- Each line is said once over the order, of the very definitions that the promises of `matrix` cite.
-- The record `Port` hands an order's definitions to the statements. Their proofs stand in proofs/Two.antt, Three.antt and Four.antt, over proofs/General.antt. Assumes nothing.
use Rattle.std.specs.Prelude.{◌≡◌, ℕ, ◌^◌, ◌<◌, true, T, ◌↔◌, ℤ, pos, ◌*ℤ◌, unsigned_abs, Float}
use Rattle.std.specs.Float.{binary64}
use Rattle.std.specs.Float.Ieee.{of_int}
use Rattle.vector.specs.Refusals.{Outcome, given, refused, Meant, bare}
use Rattle.vector.specs.Vectors.{entry, entries2, entries3, entries4}
use Rattle.vector.specs.declared.Vector2.{Vector2}
use Rattle.vector.specs.declared.Vector3.{Vector3}
use Rattle.vector.specs.declared.Vector4.{Vector4}
use Rattle.matrix.specs.Records.{identity2, identity3, identity4}
use Rattle.matrix.specs.Arithmetic.{mul2, mul3, mul4, mul_vector2, mul_vector3, mul_vector4}
use Rattle.matrix.specs.Inverse.{det2, det3, det4, invert2, invert3, invert4}
use Rattle.matrix.specs.declared.records.Matrix2.{Matrix2}
use Rattle.matrix.specs.declared.records.Matrix3.{Matrix3}
use Rattle.matrix.specs.declared.records.Matrix4.{Matrix4}
use Rattle.whole.specs.Matrix.{Matrix}
use Rattle.whole.specs.Order.{exact_signed_sum}
use Rattle.whole.specs.Claim.{ZeroExactlyIf}
use Rattle.exact.specs.Value.{Exact, Whole, Equal}
use Rattle.engine.specs.Whole.{Floats, whole_entries, AllWhole, numbers, floats2, floats3, floats4}
use Rattle.engine.specs.Engine.{signed_sum, undoable, cofactor_of}

-- ---- what is handed in: the definitions of one order

-- an order: its records, m[c][r] and v[i], and the port's definitions
pub record Port : Type 1 where
  pub order : ℕ
  pub Matrix : Type 0
  pub Vector : Type 0
  pub entries : Matrix → Floats
  pub places : Vector → ℕ → Float
  pub determinant : Matrix → Float
  pub invert : Matrix → Outcome Matrix
  pub product : Matrix → Matrix → Matrix
  pub times_vector : Matrix → Vector → Vector
  pub identity : Matrix

-- the port at orders 2, 3 and 4
abbrev pub port2 : Port
port2 =
    record {
      order = 2;
      Matrix = Matrix2;
      Vector = Vector2;
      entries = floats2;
      places = λ v. entry (entries2 v);
      determinant = det2;
      invert = invert2;
      product = mul2;
      times_vector = mul_vector2;
      identity = identity2;
    }

abbrev pub port3 : Port
port3 =
    record {
      order = 3;
      Matrix = Matrix3;
      Vector = Vector3;
      entries = floats3;
      places = λ v. entry (entries3 v);
      determinant = det3;
      invert = invert3;
      product = mul3;
      times_vector = mul_vector3;
      identity = identity3;
    }

abbrev pub port4 : Port
port4 =
    record {
      order = 4;
      Matrix = Matrix4;
      Vector = Vector4;
      entries = floats4;
      places = λ v. entry (entries4 v);
      determinant = det4;
      invert = invert4;
      product = mul4;
      times_vector = mul_vector4;
      identity = identity4;
    }

-- ---- the words of the demand

-- "with whole entries of magnitude at most 1024": the engine's own test, by which it does not refuse with 6
abbrev pub WholeEntries : (p : Port) → ℕ → p.Matrix → Type 0
WholeEntries p limit m = T (whole_entries limit p.order (p.entries m))

-- "the exact signed sum over column orders", of the matrix's own whole entries
abbrev pub sum_of : (p : Port) → p.Matrix → ℤ
sum_of p m = exact_signed_sum p.order (numbers (p.entries m))

-- "plus or minus a power of two, one included"
abbrev pub PowerOfTwo : ℤ → Type 0
PowerOfTwo z = (k : ℕ) × (unsigned_abs z ≡ 2 ^ k)

-- "equals numerically": by ==, entry by entry
abbrev pub SameMatrix : (p : Port) → p.Matrix → p.Matrix → Type 0
SameMatrix p a b = (c r : ℕ) → c < p.order → r < p.order → Equal (p.entries a c r) (p.entries b c r)

abbrev pub SameVector : (p : Port) → p.Vector → p.Vector → Type 0
SameVector p u v = (i : ℕ) → i < p.order → Equal (p.places u i) (p.places v i)

-- "a whole vector", with entries up to the limit
abbrev pub WholeVector : (p : Port) → ℕ → p.Vector → Type 0
WholeVector p limit v = (i : ℕ) → i < p.order → Whole limit (p.places v i)

-- `ExactFraction x a b`: x is finite and its exact value is the fraction a / b. That is, b is not zero, the value of x is z / 2 ^ k, and z / 2 ^ k = a / b, multiplied across
pub record ExactFraction (x : Float) (a b : ℤ) : Type 0 where
  pub z : ℤ
  pub k : ℕ
  pub exact : Exact x z k
  pub divisor : 0 < unsigned_abs b
  pub across : z *ℤ b ≡ a *ℤ pos (2 ^ k)

-- i is the exact inverse of the whole matrix w: each of its entries is a cofactor of w over the signed sum, columns and rows exchanged. That these cofactors times w are the sum times the identity, either way round, is `cofactors_over_sum` of proofs/Fractions.antt
abbrev pub ExactInverse : (p : Port) → Matrix → p.Matrix → Type 0
ExactInverse p w i = (c r : ℕ) → c < p.order → r < p.order → ExactFraction (p.entries i c r) (cofactor_of p.order w r c) (exact_signed_sum p.order w)

-- ---- the demand, for entries and vectors up to their limits

-- 0. the words' meaning: each entry's exact value is a whole number of magnitude at most the limit, -0.0 being 0
abbrev pub Meaning : Port → ℕ → Type 0
Meaning p limit = (m : p.Matrix) → WholeEntries p limit m ↔ AllWhole limit p.order (p.entries m)

-- the numbers that the sum is taken of are the entries' own exact values
abbrev pub OwnNumbers : Port → ℕ → Type 0
OwnNumbers p limit = (m : p.Matrix) → WholeEntries p limit m → (c r : ℕ) → c < p.order → r < p.order → Exact (p.entries m c r) (numbers (p.entries m) c r) 0

-- the engine refuses with 6, giving no number and no yes or no, exactly where some entry is not a whole number within the limit
abbrev pub RefusedElsewhere : Port → ℕ → Type 0
RefusedElsewhere p limit = (m : p.Matrix) → ((signed_sum limit p.order (p.entries m) ≡ refused (bare 6)) ↔ ¬ WholeEntries p limit m) × ((undoable limit p.order (p.entries m) ≡ refused (bare 6)) ↔ ¬ WholeEntries p limit m)

-- 1. "The determinant numerically equals the exact signed sum": it is finite and its exact value is that number
abbrev pub DeterminantIsSum : Port → ℕ → Type 0
DeterminantIsSum p limit = (m : p.Matrix) → WholeEntries p limit m → Exact (p.determinant m) (sum_of p m) 0

-- 2. "Inversion is refused exactly when that sum is zero": and with the number 2, which has no place
abbrev pub RefusedExactly : Port → ℕ → Type 0
RefusedExactly p limit = (m : p.Matrix) → WholeEntries p limit m → (why : Meant) → (p.invert m ≡ refused why) ↔ ((why ≡ bare 2) × (sum_of p m ≡ pos 0))

-- 3. "matrix times inverse equals the identity numerically, either way round, and a whole vector moved there and back is the same vector numerically"
pub record Undoes (p : Port) (vectors : ℕ) (m i : p.Matrix) : Type 0 where
  pub matrix_times_inverse : SameMatrix p (p.product m i) p.identity
  pub inverse_times_matrix : SameMatrix p (p.product i m) p.identity
  pub there_and_back : (v : p.Vector) → WholeVector p vectors v → SameVector p (p.times_vector i (p.times_vector m v)) v
  pub back_and_there : (v : p.Vector) → WholeVector p vectors v → SameVector p (p.times_vector m (p.times_vector i v)) v

abbrev pub InverseUndoes : Port → ℕ → ℕ → Type 0
InverseUndoes p limit vectors = (m : p.Matrix) → WholeEntries p limit m → PowerOfTwo (sum_of p m) → (i : p.Matrix) × (p.invert m ≡ given i) × Undoes p vectors m i

-- beside the demand's text: there the inverse is exact, each of its entries being a cofactor over the sum with no rounding
abbrev pub InverseIsExact : Port → ℕ → Type 0
InverseIsExact p limit = (m : p.Matrix) → WholeEntries p limit m → PowerOfTwo (sum_of p m) → (i : p.Matrix) × (p.invert m ≡ given i) × ExactInverse p (numbers (p.entries m)) i

-- both at once: m has an inverse, which undoes it and is the exact inverse of w
abbrev pub HasExactInverse : (p : Port) → ℕ → Matrix → p.Matrix → Type 0
HasExactInverse p vectors w m = (i : p.Matrix) × (p.invert m ≡ given i) × Undoes p vectors m i × ExactInverse p w i

-- 4. the engine's sum agrees with the determinant numerically, and `undoable` says yes exactly where 3 applies
abbrev pub SumAgrees : Port → ℕ → Type 0
SumAgrees p limit = (m : p.Matrix) → WholeEntries p limit m → (s : ℤ) × (signed_sum limit p.order (p.entries m) ≡ given s) × Equal (of_int binary64 s) (p.determinant m)

abbrev pub UndoableExactly : Port → ℕ → Type 0
UndoableExactly p limit = (m : p.Matrix) → (undoable limit p.order (p.entries m) ≡ given true) ↔ (WholeEntries p limit m × PowerOfTwo (sum_of p m))

-- so a yes of `undoable` entitles to all of 3
abbrev pub WhereUndoable : Port → ℕ → ℕ → Type 0
WhereUndoable p limit vectors = (m : p.Matrix) → undoable limit p.order (p.entries m) ≡ given true → HasExactInverse p vectors (numbers (p.entries m)) m

-- 5. the sum is zero exactly if no whole A and no nonzero k have M·A = k·identity, M being the matrix's own whole entries
abbrev pub ZeroExactly : Port → ℕ → Type 0
ZeroExactly p limit = (m : p.Matrix) → WholeEntries p limit m → ZeroExactlyIf p.order (numbers (p.entries m))

-- all of it
pub record Demand (p : Port) (limit vectors : ℕ) : Type 0 where
  pub meaning : Meaning p limit
  pub own_numbers : OwnNumbers p limit
  pub refused_elsewhere : RefusedElsewhere p limit
  pub determinant_is_sum : DeterminantIsSum p limit
  pub refused_exactly : RefusedExactly p limit
  pub inverse_undoes : InverseUndoes p limit vectors
  pub inverse_is_exact : InverseIsExact p limit
  pub sum_agrees : SumAgrees p limit
  pub undoable_exactly : UndoableExactly p limit
  pub where_undoable : WhereUndoable p limit vectors
  pub zero_exactly : ZeroExactly p limit

-- "whole entries of magnitude at most 1024"; vectors with "entries up to 32768 for orders 2 and 3, up to 64 for order 4"
abbrev pub AtOrder2 : Type 0
AtOrder2 = Demand port2 1024 32768

abbrev pub AtOrder3 : Type 0
AtOrder3 = Demand port3 1024 32768

abbrev pub AtOrder4 : Type 0
AtOrder4 = Demand port4 1024 64
