-- The port at order 2 is its formulas: each equation holds by computation.
-- Assumes nothing.
use Rattle.std.proofs.Common.{◌≡◌, ℕ, ◌<◌, sym, refl, subst, lit<}
use lib.Ieee.{Float, binary64, div}
use Rattle.vector.specs.Vectors.{entry, entries2}
use Rattle.matrix.specs.Records.{identity2}
use Rattle.matrix.specs.Arithmetic.{mul2, mul_vector2}
use Rattle.matrix.specs.Inverse.{det2, inverse2}
use Rattle.matrix.specs.declared.records.Matrix2.{Matrix2}
use Rattle.whole.specs.Matrix.{δ}
use Rattle.whole.specs.Order.{exact_signed_sum}
use Rattle.whole.proofs.Formula.{bound}
use Rattle.whole.proofs.Inverse.{numerators}
use Rattle.exact.specs.Value.{Exact}
use Rattle.exact.proofs.Signed.{sign_of}
use Rattle.exact.proofs.Literals.{exact_zero, exact_one}
use Rattle.exact.proofs.Known.{Known}
use Rattle.exact.proofs.Reading.{in_float}
use Rattle.engine.specs.Whole.{floats2}
use Rattle.engine.specs.Demand.{port2, AtOrder2}
use Rattle.engine.proofs.Places.{below_two}
use Rattle.engine.proofs.Readings.{column_wise, beside}
use Rattle.engine.proofs.Formulas.{sum2, dot2, cofactor2, divided}
use Rattle.engine.proofs.General.{Written, demand}

-- what holds at the four places holds at all places below two
at_places : (P : ℕ → ℕ → Type 0) → P 0 0 → P 0 1 → P 1 0 → P 1 1 → (c r : ℕ) → c < 2 → r < 2 → P c r
at_places P a b c d i j h l = below_two (λ i. P i j) (below_two (P 0) a b j l) (below_two (P 1) c d j l) i h

-- the inverse's entries are the cofactors, divided by the determinant
inverse_is : (m : Matrix2) (det : Float) (c r : ℕ) → c < 2 → r < 2 → floats2 (inverse2 m det) c r ≡ div binary64 (in_float binary64 (column_wise 2 (floats2 m)) (cofactor2 c r)) det
inverse_is m det = at_places (λ c r. floats2 (inverse2 m det) c r ≡ div binary64 (in_float binary64 (column_wise 2 (floats2 m)) (cofactor2 c r)) det) refl refl refl refl

-- the port's definitions are the formulas, and these pass their tests
written : Written port2 1024 1024 32768 sum2 dot2 dot2
unfolding det2
written = record {
  some = lit< tt;
  limit = lit< tt;
  vectors = lit< tt;
  sum_alike = tt;
  sum_exact = tt;
  sum_small = lit< tt;
  passes = record {
    matrix_inverse = tt;
    inverse_matrix = tt;
    there = tt;
    and_back = tt;
    back = tt;
    and_there = tt;
  };
  determinant_is = λ m. refl;
  product_is = λ a b. at_places (λ c r. floats2 (mul2 a b) c r ≡ in_float binary64 (beside 2 (λ i. floats2 a i r) (floats2 b c)) dot2) refl refl refl refl;
  vector_is = λ a v. below_two (λ r. entry (entries2 (mul_vector2 a v)) r ≡ in_float binary64 (beside 2 (λ i. floats2 a i r) (entry (entries2 v))) dot2) refl refl;
  identity_is = at_places (λ c r. Exact (floats2 identity2 c r) (δ c r) 0) (exact_one binary64) (exact_zero binary64) (exact_zero binary64) (exact_one binary64);
  inverse = inverse2;
  invert_is = λ m. refl;
  inverse_known = λ m M holds k power det det-known c r h l.
      subst (λ (x : Float). Known x (numerators 2 (sign_of (exact_signed_sum 2 M)) M c r) k 1024) (sym (inverse_is m det c r h l))
      (divided binary64 1 1024 1024 cofactor2 (lit< tt) (floats2 m) M holds k power det (bound (λ i. 1024) sum2) det-known (lit< tt) tt c r h l);
}

-- demand 3 at order 2
pub at_order2 : AtOrder2
at_order2 = demand port2 1024 1024 32768 sum2 dot2 dot2 written
