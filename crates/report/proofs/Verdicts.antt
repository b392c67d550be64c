-- A verdict is the end of its report, and short.
-- Assumes nothing.
use Rattle.std.proofs.Common.{◌≡◌, ℕ, ◌+◌, ◌≤◌, Bool, true, false, cond, eqb, [], ◌++◌, length, ℤ, nat_abs, sym, refl, append_assoc, le_trans, lit≤}
use Rattle.whole.specs.Matrix.{Matrix}
use Rattle.whole.specs.Order.{exact_signed_sum}
use Rattle.engine.specs.Engine.{is_one_bit}
use Rattle.report.specs.declared.totals.Totals.{Totals}
use Rattle.report.specs.Text.{Bytes, text, decimal, whole}
use Rattle.report.specs.Entries.{columns}
use Rattle.report.specs.Line.{Line, no_order, other_count, not_whole, matrix, line_of}
use Rattle.report.specs.Report.{matrix_head, sum_head, refusal2, rows_of, exactness, comes_back, inverse_report, sum_report, told}
use Rattle.report.specs.Verdict.{sum_line, verdict_text, labelled, sums_text, totals_text, EndOfReport, VerdictsFit}
use Rattle.report.proofs.Fits.{joined, either, decimal_fits, comes_back_fits, refusal_fits, expected_fits}

-- a matrix: what stands before the verdict
before : ℕ → Matrix → ℤ → Bytes
before n m s =
    (matrix_head ++ rows_of false n m s ++ sum_head ++ whole s ++ text "\n")
    ++ cond (eqb (nat_abs s) 0) [] (exactness (is_one_bit (nat_abs s)) ++ rows_of true n m s)

sum_end : (n : ℕ) (m : Matrix) (s : ℤ) → sum_report n m s ≡ before n m s ++ sum_line n s
unfolding before sum_report sum_line inverse_report
sum_end n m s = by_test (eqb (nat_abs s) 0)
  where
    head : Bytes
    head = matrix_head ++ rows_of false n m s ++ sum_head ++ whole s ++ text "\n"

    by_test : (t : Bool) → head ++ cond t refusal2 (inverse_report n m s) ≡ (head ++ cond t [] (exactness (is_one_bit (nat_abs s)) ++ rows_of true n m s)) ++ cond t refusal2 (comes_back n (is_one_bit (nat_abs s)))
    by_test true = sym (append_assoc head [] refusal2)
    by_test false = sym (append_assoc head (exactness (is_one_bit (nat_abs s)) ++ rows_of true n m s) (comes_back n (is_one_bit (nat_abs s))))

pub end_of_report : EndOfReport
unfolding told verdict_text
end_of_report no_order = ([], refl)
end_of_report (other_count n) = ([], refl)
end_of_report (not_whole n place) = ([], refl)
end_of_report (matrix n zs) = (before n (columns n zs) (exact_signed_sum n (columns n zs)), sum_end n (columns n zs) (exact_signed_sum n (columns n zs)))

-- ---- room

verdict_fits : (line : Line) → length (verdict_text line) ≤ 256
unfolding verdict_text sum_line
verdict_fits no_order = lit≤ tt
verdict_fits (other_count n) = le_trans (expected_fits n) (lit≤ tt)
verdict_fits (not_whole n place) = le_trans (refusal_fits n place) (lit≤ tt)
verdict_fits (matrix n zs) =
    let s = exact_signed_sum n (columns n zs) in
    either (eqb (nat_abs s) 0) refusal2 (comes_back n (is_one_bit (nat_abs s))) 256 (lit≤ tt) (le_trans (comes_back_fits n (is_one_bit (nat_abs s))) (lit≤ tt))

-- a label and its number
label : (t : Bytes) (n b : ℕ) → length t ≤ b → length (t ++ decimal n) ≤ b + 20
label t n b h = joined t (decimal n) b 20 h (decimal_fits n)

totals_fit : (t : Totals) → length (totals_text t) ≤ 256
unfolding totals_text sums_text
totals_fit t =
    let lines = labelled "lines: " t.lines in
    let back = labelled "; come back exactly: " t.back in
    let rounded = labelled "; need not: " t.rounded in
    let singular = labelled "; refusal 2: " t.singular in
    let outside = labelled "; refusal 6: " t.outside in
    let unread = labelled "; not read: " t.unread in
    le_trans
    (joined (lines ++ back ++ rounded ++ singular ++ outside ++ unread) (text "\n") 246 1
    (joined (lines ++ back ++ rounded ++ singular ++ outside) unread 205 41
    (joined (lines ++ back ++ rounded ++ singular) outside 164 41
    (joined (lines ++ back ++ rounded) singular 123 41
    (joined (lines ++ back) rounded 82 41 (joined lines back 41 41 (label (text "lines: ") t.lines 21 (lit≤ tt)) (label (text "; come back exactly: ") t.back 21 (lit≤ tt))) (label (text "; need not: ") t.rounded 21 (lit≤ tt)))
    (label (text "; refusal 2: ") t.singular 21 (lit≤ tt))) (label (text "; refusal 6: ") t.outside 21 (lit≤ tt))) (label (text "; not read: ") t.unread 21 (lit≤ tt))) (lit≤ tt))
    (lit≤ tt)

pub verdicts_fit : VerdictsFit
verdicts_fit = record { verdict = λ line. verdict_fits (line_of line); totals = totals_fit }
