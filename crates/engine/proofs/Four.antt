-- The port at order 4 is its formulas: each equation holds by computation.
-- Assumes nothing.
use Rattle.std.proofs.Common.{◌≡◌, ℕ, ◌*◌, ◌^◌, ◌<◌, ℤ, pos, negsuc, ◌*ℤ◌, sym, refl, subst, lit<, lit≤}
use lib.Ieee.{Float, binary64, neg, mul, div}
use Rattle.vector.specs.Arithmetic.{float1}
use Rattle.vector.specs.Vectors.{entry, entries4}
use Rattle.matrix.specs.Records.{identity4}
use Rattle.matrix.specs.Arithmetic.{mul4, mul_vector4}
use Rattle.matrix.specs.Inverse.{det3, det_sub_proc, det4, sign, cofactor, inverse_column, inverse4}
use Rattle.vector.specs.declared.Vector4.{Vector4}
use Rattle.matrix.specs.declared.records.Matrix4.{Matrix4}
use Rattle.whole.specs.Matrix.{Matrix, δ}
use Rattle.whole.specs.Order.{parity, exact_signed_sum}
use Rattle.whole.proofs.Formula.{in_whole, bound}
use Rattle.whole.proofs.Inverse.{numerators, moved}
use Rattle.whole.proofs.Written.{entries}
use Rattle.exact.specs.Value.{Exact}
use Rattle.exact.proofs.Signed.{sign_of}
use Rattle.exact.proofs.Literals.{exact_zero, exact_one}
use Rattle.exact.proofs.Known.{Known, known_negation}
use Rattle.exact.proofs.Reading.{in_float, places, weight}
use Rattle.exact.proofs.Steps.{EachStep}
use Rattle.engine.specs.Whole.{whole_number, numbers, floats4}
use Rattle.engine.specs.Demand.{port4, WholeEntries, WholeVector, PowerOfTwo, sum_of, AtOrder4}
use Rattle.engine.proofs.Places.{below_four}
use Rattle.engine.proofs.Readings.{column_wise, beside}
use Rattle.engine.proofs.Formulas.{sum4, dot4, combine4, minor4, times_reciprocal}
use Rattle.engine.proofs.General.{Written, sum_steps, there_steps, and_back_steps, back_steps, and_there_steps, demand}

-- what holds at the sixteen places holds at all places below four
at_places : (P : ℕ → ℕ → Type 0)
    → P 0 0 → P 0 1 → P 0 2 → P 0 3 → P 1 0 → P 1 1 → P 1 2 → P 1 3 → P 2 0 → P 2 1 → P 2 2 → P 2 3 → P 3 0 → P 3 1 → P 3 2 → P 3 3
    → (c r : ℕ) → c < 4 → r < 4 → P c r
at_places P a b c d e f g h i j k l m n o p x y s t =
    below_four (λ x. P x y) (below_four (P 0) a b c d y t) (below_four (P 1) e f g h y t) (below_four (P 2) i j k l y t) (below_four (P 3) m n o p y t) x s

-- a minor is within this
abbrev largest : ℕ
largest = 6 * 1024 ^ 3

-- the inverse's entries are the minors, times their signs, times the reciprocal
inverse_is : (m : Matrix4) (det : Float) (c r : ℕ) → c < 4 → r < 4 → floats4 (inverse4 m det) c r ≡ mul binary64 (mul binary64 (in_float binary64 (column_wise 4 (floats4 m)) (minor4 c r)) (sign c r)) (div binary64 float1 det)
unfolding inverse_column cofactor det3
inverse_is m det =
    at_places (λ c r. floats4 (inverse4 m det) c r ≡ mul binary64 (mul binary64 (in_float binary64 (column_wise 4 (floats4 m)) (minor4 c r)) (sign c r)) (div binary64 float1 det))
    refl refl refl refl refl refl refl refl refl refl refl refl refl refl refl refl

-- 1 and -1
plus : Known float1 (pos 1) 0 1
plus = record { exact = exact_one binary64; within = lit≤ tt }

minus : Known (neg float1) (negsuc 0) 0 1
minus = known_negation plus

-- the signs are those of the places
sign_known : (c r : ℕ) → c < 4 → r < 4 → Known (sign c r) (parity r *ℤ parity c) 0 1
sign_known =
    at_places (λ c r. Known (sign c r) (parity r *ℤ parity c) 0 1)
    plus minus plus minus minus plus minus plus plus minus plus minus minus plus minus plus

-- the port's definitions are the formulas, and these pass their tests
written : Written port4 1024 largest 64 sum4 combine4 dot4
unfolding det4 det_sub_proc
written = record {
  some = lit< tt;
  limit = lit< tt;
  vectors = lit< tt;
  sum_alike = tt;
  sum_exact = tt;
  sum_small = lit< tt;
  passes = record {
    matrix_inverse = tt;
    inverse_matrix = tt;
    there = tt;
    and_back = tt;
    back = tt;
    and_there = tt;
  };
  determinant_is = λ m. refl;
  product_is = λ a b. at_places (λ c r. floats4 (mul4 a b) c r ≡ in_float binary64 (beside 4 (λ i. floats4 a i r) (floats4 b c)) combine4) refl refl refl refl refl refl refl refl refl refl refl refl refl refl refl refl;
  vector_is = λ a v. below_four (λ r. entry (entries4 (mul_vector4 a v)) r ≡ in_float binary64 (beside 4 (λ i. floats4 a i r) (entry (entries4 v))) dot4) refl refl refl refl;
  identity_is = at_places (λ c r. Exact (floats4 identity4 c r) (δ c r) 0) (exact_one binary64) (exact_zero binary64) (exact_zero binary64) (exact_zero binary64) (exact_zero binary64) (exact_one binary64) (exact_zero binary64) (exact_zero binary64) (exact_zero binary64) (exact_zero binary64) (exact_one binary64) (exact_zero binary64) (exact_zero binary64) (exact_zero binary64) (exact_zero binary64) (exact_one binary64);
  inverse = inverse4;
  invert_is = λ m. refl;
  inverse_known = λ m M holds k power det det-known c r h l.
      subst (λ (x : Float). Known x (numerators 4 (sign_of (exact_signed_sum 4 M)) M c r) k largest) (sym (inverse_is m det c r h l))
      (times_reciprocal binary64 3 1024 largest minor4 (lit< tt) (floats4 m) M holds k power det (bound (λ i. 1024) sum4) det-known (lit< tt) float1 (exact_one binary64) sign sign_known tt c r h l);
}

-- demand 3 at order 4
pub at_order4 : AtOrder4
at_order4 = demand port4 1024 largest 64 sum4 combine4 dot4 written

-- ---- document 01, 'The exact engine': the figures of "Why the limits hold"

-- "no partial sum passes 24·2^40": every step of the determinant (the formula sum4 computed in floats is det4) is a whole number within that.
-- That no partial sum of the engine's own loop passes it is `partial_le` of Table.antt
pub sum_figure : (m : Matrix4) → WholeEntries port4 1024 m
    → EachStep (λ part. Known (in_float binary64 (column_wise 4 (floats4 m)) part) (in_whole (entries 4 (numbers (floats4 m))) part) 0 (24 * 2 ^ 40)) sum4
sum_figure = sum_steps port4 1024 largest 64 sum4 combine4 dot4 written (24 * 2 ^ 40) tt

-- a matrix whose sum is plus or minus 2 ^ k, and a whole vector with entries up to 64
module _ (m : Matrix4) (whole : WholeEntries port4 1024 m) (q : PowerOfTwo (sum_of port4 m)) (v : Vector4) (small : WholeVector port4 64 v) where
  -- the inverse
  abbrev x : Matrix4
  x = inverse4 m (det4 m)

  -- the whole numbers of the matrix, the inverse's numerators over 2 ^ k, and the whole numbers of the vector
  abbrev M : Matrix
  M = numbers (floats4 m)

  abbrev X : Matrix
  X = numerators 4 (sign_of (exact_signed_sum 4 M)) M

  abbrev Q : ℕ → ℤ
  Q i = whole_number (entry (entries4 v) i)

  -- row r of a matrix times a vector, dot4 in floats: every step is a whole number within 24 * 2 ^ 48 over 2 ^ k, taken t times for the matrix and u times for the vector
  abbrev Moves : (t u : ℕ) → Matrix4 → Matrix → Vector4 → (ℕ → ℤ) → ℕ → Type 0
  Moves t u a A b C r =
      EachStep (λ part. Known (in_float binary64 (beside 4 (λ j. floats4 a j r) (entry (entries4 b))) part) (in_whole (beside 4 (λ j. A j r) C) part) (places (weight (beside 4 (λ i. t) (λ i. u)) part) q.0) (24 * 2 ^ 48)) dot4

  -- "there and back, a vector entry of 64 keeps every scaled partial sum within 24·2^48": by the matrix, and then by the inverse
  pub vector_figure : (r : ℕ) → r < 4 → Moves 0 0 m M v Q r × Moves 1 0 x X (mul_vector4 m v) (moved 4 M Q) r
  unfolding inverse_column written
  vector_figure r h = (
    there_steps port4 1024 largest 64 sum4 combine4 dot4 written m whole q v small (24 * 2 ^ 48) tt r h,
    and_back_steps port4 1024 largest 64 sum4 combine4 dot4 written m whole q v small (24 * 2 ^ 48) tt r h,
  )

  -- by the inverse, and then by the matrix
  pub vector_figure_back : (r : ℕ) → r < 4 → Moves 1 0 x X v Q r × Moves 0 1 m M (mul_vector4 x v) (moved 4 X Q) r
  unfolding inverse_column written
  vector_figure_back r h = (
    back_steps port4 1024 largest 64 sum4 combine4 dot4 written m whole q v small (24 * 2 ^ 48) tt r h,
    and_there_steps port4 1024 largest 64 sum4 combine4 dot4 written m whole q v small (24 * 2 ^ 48) tt r h,
  )

-- and 24 * 2 ^ 48, the larger of the two, is below 2 ^ 53
pub below_precision : 24 * 2 ^ 48 < 2 ^ 53
below_precision = lit< tt
