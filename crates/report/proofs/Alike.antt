-- The report of a matrix goes by the entries below its order alone.
-- Assumes nothing.
use Rattle.std.proofs.Common.{◌≡◌, ℕ, zero, suc, ◌<◌, Bool, true, false, ◌++◌, ℤ, refl, ap, arith}
use Rattle.whole.specs.Matrix.{Matrix}
use Rattle.whole.specs.Order.{exact_signed_sum}
use Rattle.whole.proofs.Expansion.{signed_sum_ext}
use Rattle.engine.proofs.Outcomes.{cofactor_ext}
use Rattle.report.specs.Text.{Bytes, text, each, whole}
use Rattle.report.specs.Report.{cell, fraction, row_of, rows_of, inverse_report, sum_report, matrix_report}

-- texts that are the same below n
pub each_ext : (n : ℕ) (f g : ℕ → Bytes) → ((k : ℕ) → k < n → f k ≡ g k) → each n f ≡ each n g
each_ext zero f g same = refl
each_ext (suc n) f g same = rw (each_ext n f g (λ k h. same k (omega arith)), same n (omega arith))

module _ (n : ℕ) (m w : Matrix) (same : (c r : ℕ) → c < n → r < n → m c r ≡ w c r) where
  -- an entry
  cell_ext : (b : Bool) (s : ℤ) (c r : ℕ) → c < n → r < n → cell b n m s c r ≡ cell b n w s c r
  cell_ext false s c r h l = ap whole (same c r h l)
  cell_ext true s c r h l = ap (λ (k : ℤ). fraction k s) (cofactor_ext n (omega (arith, h)) m w same r c l h)

  -- the rows
  rows_ext : (b : Bool) (s : ℤ) → rows_of b n m s ≡ rows_of b n w s
  unfolding rows_of
  rows_ext b s =
      each_ext n (row_of b n m s) (row_of b n w s)
      (λ r l. ap (λ (t : Bytes). t ++ text "\n") (each_ext n (λ c. text " " ++ cell b n m s c r) (λ c. text " " ++ cell b n w s c r) (λ c h. ap (λ (t : Bytes). text " " ++ t) (cell_ext b s c r h l))))

  -- the report
  pub report_ext : matrix_report n m ≡ matrix_report n w
  unfolding sum_report inverse_report
  report_ext = rw (signed_sum_ext n m w same, rows_ext false (exact_signed_sum n w), rows_ext true (exact_signed_sum n w))
