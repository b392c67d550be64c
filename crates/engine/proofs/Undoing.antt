-- A matrix of whole numbers whose signed sum is plus or minus 2 ^ k, and floats whose exact values are its adjugate over the sum: products and moves by the port's formulas undo it, exactly.
-- Over the format, the order, the limits and the formulas. Assumes nothing.
use Rattle.std.proofs.Common.{◌≡◌, ℕ, ◌*◌, ◌^◌, ◌<◌, ◌≤◌, T, ℤ, pos, ◌*ℤ◌, nat_abs, ap, ◌∙◌, subst}
use lib.Ieee.{Float, Format, low}
use Rattle.whole.specs.Matrix.{Matrix, δ}
use Rattle.whole.specs.Order.{exact_signed_sum}
use Rattle.whole.proofs.Formula.{Formula}
use Rattle.whole.proofs.Inverse.{numerators, numerators_left, numerators_right, moved, there_and_back}
use Rattle.exact.specs.Value.{Exact}
use Rattle.exact.proofs.Signed.{sign_of, sign_square, sign_split}
use Rattle.exact.proofs.Value.{exact_whole}
use Rattle.exact.proofs.Known.{Known}
use Rattle.exact.proofs.Reading.{in_float}
use Rattle.engine.specs.Whole.{Floats}
use Rattle.engine.proofs.Readings.{Holds, beside, dot_test, dot_known}

-- the tests of the two formulas, F of the product and G of matrix times vector, for entries within B, an inverse within D and vectors within E
pub record Passes (f : Format) (n B D E : ℕ) (F G : Formula) : Type 0 where
  pub matrix_inverse : T (dot_test f n F 0 1 B D)
  pub inverse_matrix : T (dot_test f n F 1 0 D B)
  pub there : T (dot_test f n G 0 0 B E)
  pub and_back : T (dot_test f n G 1 0 D (n * (B * E)))
  pub back : T (dot_test f n G 1 0 D E)
  pub and_there : T (dot_test f n G 0 1 B (n * (D * E)))

-- formulas that pass, and a matrix whose signed sum is plus or minus 2 ^ k
module _ (f : Format) (n B D E : ℕ) (F G : Formula) (pass : Passes f n B D E F G) (M : Matrix) (k : ℕ) (fine : k ≤ low f) (power : nat_abs (exact_signed_sum n M) ≡ 2 ^ k) where
  -- the sign of the sum
  abbrev pub unit : ℤ
  unit = sign_of (exact_signed_sum n M)

  -- the inverse, times 2 ^ k
  abbrev pub X : Matrix
  X = numerators n unit M

  -- the sum is its sign times 2 ^ k
  split : exact_signed_sum n M ≡ unit *ℤ pos (2 ^ k)
  split = sign_split (exact_signed_sum n M) ∙ ap (λ (q : ℕ). unit *ℤ pos q) power

  -- floats with these values
  module _ (m x : Floats) (m-known : Holds n B m M) (x_known : (c r : ℕ) → c < n → r < n → Known (x c r) (X c r) k D) where
    -- matrix times inverse is the identity
    pub matrix_times_inverse : (c r : ℕ) → c < n → r < n → Exact (in_float f (beside n (λ i. m i r) (x c)) F) (δ c r) 0
    matrix_times_inverse c r h l =
        let y = in_float f (beside n (λ i. m i r) (x c)) F in
        exact_whole k
        (subst (λ (z : ℤ). Exact y z k) (numerators_right n M unit (pos (2 ^ k)) (sign_square (exact_signed_sum n M)) split c r h l)
        (dot_known f n F 0 1 B D pass.matrix_inverse k fine (λ i. m i r) (x c) (λ i. M i r) (X c) (λ i b. m-known i r b l) (λ i b. x_known c i h b)).exact)

    -- inverse times matrix is the identity
    pub inverse_times_matrix : (c r : ℕ) → c < n → r < n → Exact (in_float f (beside n (λ i. x i r) (m c)) F) (δ c r) 0
    inverse_times_matrix c r h l =
        let y = in_float f (beside n (λ i. x i r) (m c)) F in
        exact_whole k
        (subst (λ (z : ℤ). Exact y z k) (numerators_left n M unit (pos (2 ^ k)) (sign_square (exact_signed_sum n M)) split c r h l)
        (dot_known f n F 1 0 D B pass.inverse_matrix k fine (λ i. x i r) (m c) (λ i. X i r) (M c) (λ i b. x_known i r b l) (λ i b. m-known c i h b)).exact)

    -- a vector of whole numbers within E
    module _ (v : ℕ → Float) (Q : ℕ → ℤ) (v_known : (i : ℕ) → i < n → Known (v i) (Q i) 0 E) where
      -- moved by the matrix it is exact
      pub there_known : (i : ℕ) → i < n → Known (in_float f (beside n (λ j. m j i) v) G) (moved n M Q i) 0 (n * (B * E))
      there_known i h = dot_known f n G 0 0 B E pass.there k fine (λ j. m j i) v (λ j. M j i) Q (λ j b. m-known j i b h) v_known

      -- what was moved by the matrix, and is moved back by the inverse, is the same
      pub and_back : (u : ℕ → Float) → ((i : ℕ) → i < n → Known (u i) (moved n M Q i) 0 (n * (B * E))) → (r : ℕ) → r < n → Exact (in_float f (beside n (λ j. x j r) u) G) (Q r) 0
      and_back u u-known r h =
          let y = in_float f (beside n (λ j. x j r) u) G in
          exact_whole k
          (subst (λ (z : ℤ). Exact y z k) (there_and_back n X M (pos (2 ^ k)) (numerators_left n M unit (pos (2 ^ k)) (sign_square (exact_signed_sum n M)) split) Q r h)
          (dot_known f n G 1 0 D (n * (B * E)) pass.and_back k fine (λ j. x j r) u (λ j. X j r) (moved n M Q) (λ j b. x_known j r b h) u-known).exact)

      -- moved by the inverse it is exact
      pub back_known : (i : ℕ) → i < n → Known (in_float f (beside n (λ j. x j i) v) G) (moved n X Q i) k (n * (D * E))
      back_known i h = dot_known f n G 1 0 D E pass.back k fine (λ j. x j i) v (λ j. X j i) Q (λ j b. x_known j i b h) v_known

      -- what was moved by the inverse, and is moved there by the matrix, is the same
      pub and_there : (u : ℕ → Float) → ((i : ℕ) → i < n → Known (u i) (moved n X Q i) k (n * (D * E))) → (r : ℕ) → r < n → Exact (in_float f (beside n (λ j. m j r) u) G) (Q r) 0
      and_there u u-known r h =
          let y = in_float f (beside n (λ j. m j r) u) G in
          exact_whole k
          (subst (λ (z : ℤ). Exact y z k) (there_and_back n M X (pos (2 ^ k)) (numerators_right n M unit (pos (2 ^ k)) (sign_square (exact_signed_sum n M)) split) Q r h)
          (dot_known f n G 0 1 B (n * (D * E)) pass.and_there k fine (λ j. m j r) u (λ j. M j r) (moved n X Q) (λ j b. m-known j r b h) u-known).exact)
