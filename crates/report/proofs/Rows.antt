-- The entries of a row and the rows, one after another.
-- Assumes nothing.
use Rattle.std.proofs.Common.{◌≡◌, ℕ, ◌+◌, ◌^◌, ◌<◌, ◌++◌, ℤ, refl, add-one}
use lib.Signed.{mag}
use Rattle.engine.specs.Engine.{cofactor_of}
use Rattle.engine.proofs.Signed.{back}
use Rattle.report.specs.declared.grid.Grid.{Grid}
use Rattle.report.specs.declared.layout.Shown.{Shown}
use Rattle.report.specs.declared.layout.Shown.TheVariants.{Matrix, Inverse}
use Rattle.report.specs.declared.write.Page.{Page}
use Rattle.report.specs.Text.{Bytes, text, each, whole}
use Rattle.report.specs.Written.{Adds}
use Rattle.report.specs.Grid.{order_in, matrix_in}
use Rattle.report.specs.Report.{fraction, rows_of}
use Rattle.report.specs.Shown.{shown_cell, shown_row, shown_rows}
use Rattle.report.proofs.Signs.{held}
use Rattle.report.proofs.Writing.{then, named}

-- one text more
pub one_more : {p q r : Page} (k : ℕ) (f : ℕ → Bytes) → Adds p (each k f) q → Adds q (f k) r → Adds p (each (k + 1) f) r
one_more k f first second = named (rw (add-one k)) (then first second)

module _ (sh : Shown) (g : Grid) where
  -- an entry of the matrix, as the code holds it
  pub matrix_cell : (c r : ℕ) (z : ℤ) → mag z < 2 ^ 63 → sh ≡ Matrix → z ≡ matrix_in g c r → text " " ++ whole (held z) ≡ text " " ++ shown_cell sh g c r
  matrix_cell c r z fits e is = rw (back z fits, e, is)

  -- an entry of the inverse, from the cofactor as the code holds it
  pub inverse_cell : (c r : ℕ) (k s : ℤ) → mag k < 2 ^ 63 → mag s < 2 ^ 63 → sh ≡ Inverse s → k ≡ cofactor_of (order_in g) (matrix_in g) r c → text " " ++ fraction (held k) (held s) ≡ text " " ++ shown_cell sh g c r
  inverse_cell c r k s k-fits s-fits e is = rw (back k k-fits, back s s-fits, e, is)

-- the cells of a row, and the rows
pub row_text : (sh : Shown) (g : Grid) (r : ℕ) → each (order_in g) (λ c. text " " ++ shown_cell sh g c r) ++ text "\n" ≡ shown_row sh g r
row_text Matrix g r = refl
row_text (Inverse s) g r = refl

pub rows_text : (sh : Shown) (g : Grid) → each (order_in g) (shown_row sh g) ≡ shown_rows sh g
unfolding rows_of
rows_text Matrix g = refl
rows_text (Inverse s) g = refl
