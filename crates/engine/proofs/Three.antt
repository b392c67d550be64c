-- The port at order 3 is its formulas: each equation holds by computation.
-- Assumes nothing.
use Rattle.std.proofs.Common.{◌≡◌, ℕ, ◌*◌, ◌^◌, ◌<◌, sym, refl, subst, lit<}
use lib.Ieee.{Float, binary64, div}
use Rattle.vector.specs.Vectors.{entry, entries3}
use Rattle.matrix.specs.Records.{identity3}
use Rattle.matrix.specs.Arithmetic.{mul3, mul_vector3}
use Rattle.matrix.specs.Inverse.{det3, inverse3}
use Rattle.matrix.specs.declared.records.Matrix3.{Matrix3}
use Rattle.whole.specs.Matrix.{δ}
use Rattle.whole.specs.Order.{exact_signed_sum}
use Rattle.whole.proofs.Formula.{bound}
use Rattle.whole.proofs.Inverse.{numerators}
use Rattle.exact.specs.Value.{Exact}
use Rattle.exact.proofs.Signed.{sign_of}
use Rattle.exact.proofs.Literals.{exact_zero, exact_one}
use Rattle.exact.proofs.Known.{Known}
use Rattle.exact.proofs.Reading.{in_float}
use Rattle.engine.specs.Whole.{floats3}
use Rattle.engine.specs.Demand.{port3, AtOrder3}
use Rattle.engine.proofs.Places.{below_three}
use Rattle.engine.proofs.Readings.{column_wise, beside}
use Rattle.engine.proofs.Formulas.{sum3, dot3, cofactor3, divided}
use Rattle.engine.proofs.General.{Written, demand}

-- what holds at the nine places holds at all places below three
at_places : (P : ℕ → ℕ → Type 0) → P 0 0 → P 0 1 → P 0 2 → P 1 0 → P 1 1 → P 1 2 → P 2 0 → P 2 1 → P 2 2 → (c r : ℕ) → c < 3 → r < 3 → P c r
at_places P a b c d e f g h i x y k l =
    below_three (λ x. P x y) (below_three (P 0) a b c y l) (below_three (P 1) d e f y l) (below_three (P 2) g h i y l) x k

-- a cofactor is within this
abbrev largest : ℕ
largest = 2 * 1024 ^ 2

-- the inverse's entries are the cofactors, divided by the determinant
inverse_is : (m : Matrix3) (det : Float) (c r : ℕ) → c < 3 → r < 3 → floats3 (inverse3 m det) c r ≡ div binary64 (in_float binary64 (column_wise 3 (floats3 m)) (cofactor3 c r)) det
inverse_is m det = at_places (λ c r. floats3 (inverse3 m det) c r ≡ div binary64 (in_float binary64 (column_wise 3 (floats3 m)) (cofactor3 c r)) det) refl refl refl refl refl refl refl refl refl

-- the port's definitions are the formulas, and these pass their tests
written : Written port3 1024 largest 32768 sum3 dot3 dot3
unfolding det3
written = record {
  some = lit< tt;
  limit = lit< tt;
  vectors = lit< tt;
  sum_alike = tt;
  sum_exact = tt;
  sum_small = lit< tt;
  passes = record {
    matrix_inverse = tt;
    inverse_matrix = tt;
    there = tt;
    and_back = tt;
    back = tt;
    and_there = tt;
  };
  determinant_is = λ m. refl;
  product_is = λ a b. at_places (λ c r. floats3 (mul3 a b) c r ≡ in_float binary64 (beside 3 (λ i. floats3 a i r) (floats3 b c)) dot3) refl refl refl refl refl refl refl refl refl;
  vector_is = λ a v. below_three (λ r. entry (entries3 (mul_vector3 a v)) r ≡ in_float binary64 (beside 3 (λ i. floats3 a i r) (entry (entries3 v))) dot3) refl refl refl;
  identity_is = at_places (λ c r. Exact (floats3 identity3 c r) (δ c r) 0) (exact_one binary64) (exact_zero binary64) (exact_zero binary64) (exact_zero binary64) (exact_one binary64) (exact_zero binary64) (exact_zero binary64) (exact_zero binary64) (exact_one binary64);
  inverse = inverse3;
  invert_is = λ m. refl;
  inverse_known = λ m M holds k power det det-known c r h l.
      subst (λ (x : Float). Known x (numerators 3 (sign_of (exact_signed_sum 3 M)) M c r) k largest) (sym (inverse_is m det c r h l))
      (divided binary64 2 1024 largest cofactor3 (lit< tt) (floats3 m) M holds k power det (bound (λ i. 1024) sum3) det-known (lit< tt) tt c r h l);
}

-- demand 3 at order 3
pub at_order3 : AtOrder3
at_order3 = demand port3 1024 largest 32768 sum3 dot3 dot3 written
