-- What a line holds, as the code holds it: which texts tell it.
-- Assumes nothing.
use Rattle.std.proofs.Common.{◌≡◌, ℕ, ◌+◌, ◌*◌, ◌<◌, List, take, ℤ, pos, Ok, Err, sym, refl, ap, get_or-take}
use Rattle.whole.specs.Order.{exact_signed_sum}
use Rattle.whole.proofs.Expansion.{signed_sum_ext}
use Rattle.report.specs.declared.grid.Grid.{Grid}
use Rattle.report.specs.declared.line.Fault.{Fault}
use Rattle.report.specs.declared.line.Fault.TheVariants.{NoOrder, OtherCount, NotWhole}
use Rattle.report.specs.Entries.{columns}
use Rattle.report.specs.Grid.{size, order_in, matrix_in}
use Rattle.report.specs.Line.{meant}
use Rattle.report.specs.Report.{matrix_report, told}
use Rattle.report.specs.Verdict.{sum_verdict, sum_line, verdict_in, verdict_text}
use Rattle.report.proofs.Asking.{place}
use Rattle.report.proofs.Alike.{report_ext}

-- the matrix of the first numbers
module _ (n : ℕ) (list : List ℤ) where
  first_ones : (c r : ℕ) → c < n → r < n → columns n list c r ≡ columns n (take (n * n) list) c r
  first_ones c r h l = sym (get_or-take (n * n) list (c * n + r) (pos 0) (place n c r h l))

  same_sum : exact_signed_sum n (columns n list) ≡ exact_signed_sum n (columns n (take (n * n) list))
  same_sum = signed_sum_ext n (columns n list) (columns n (take (n * n) list)) first_ones

-- a matrix
module _ (g : Grid) where
  pub tell_matrix : matrix_report (order_in g) (matrix_in g) ≡ told (meant (Ok g))
  unfolding told
  tell_matrix = report_ext (order_in g) (matrix_in g) (columns (order_in g) (take (order_in g * order_in g) g.entries)) (first_ones (order_in g) g.entries)

  pub tell_line : sum_line (size g.order) (exact_signed_sum (order_in g) (matrix_in g)) ≡ verdict_text (meant (Ok g))
  unfolding verdict_text
  tell_line = ap (sum_line (order_in g)) (same_sum (order_in g) g.entries)

  -- and the kind of its verdict
  pub kind_matrix : sum_verdict (exact_signed_sum (order_in g) (matrix_in g)) ≡ verdict_in (meant (Ok g))
  unfolding verdict_in
  kind_matrix = ap sum_verdict (same_sum (order_in g) g.entries)

-- a fault is told by a verdict as it is told in full
pub same_fault : (f : Fault) → verdict_text (meant (Err f)) ≡ told (meant (Err f))
unfolding verdict_text told
same_fault NoOrder = refl
same_fault (OtherCount order) = refl
same_fault (NotWhole order place) = refl
