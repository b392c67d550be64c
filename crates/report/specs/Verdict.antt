-- One verdict for a line: the last line of its report, and its kind; how many there were of each kind.
-- Assumes nothing.
use Rattle.std.specs.Prelude.{◌≡◌, ℕ, ◌+◌, ◌-◌, ◌^◌, ◌≤◌, min, cond, ◌++◌, length, ℤ, ◌==◌, unsigned_abs}
use Prim.Native.String.{String}
use Rattle.whole.specs.Order.{exact_signed_sum}
use Rattle.engine.specs.Engine.{is_one_bit}
use Rattle.report.specs.declared.totals.Totals.{Totals}
use Rattle.report.specs.declared.totals.Verdict.{Verdict}
use Rattle.report.specs.declared.totals.Verdict.TheVariants.{ComesBack, Rounded, Singular, NotWhole, NotRead}
use Rattle.report.specs.Text.{Bytes, text, decimal}
use Rattle.report.specs.Entries.{columns}
use Rattle.report.specs.Line.{Line, no_order, other_count, not_whole, matrix, line_of}
use Rattle.report.specs.Report.{comes_back, refusal2, refusal6, order_expected, entries_expected, told}

-- ---- one line

-- by the signed sum, refusal 2 or whether what the matrix moves comes back: as a kind
unfoldable pub sum_verdict : ℤ → Verdict
sum_verdict s = cond (unsigned_abs s == 0) Singular (cond (is_one_bit (unsigned_abs s)) ComesBack Rounded)

-- and as a sentence
unfoldable pub sum_line : ℕ → ℤ → Bytes
sum_line n s = cond (unsigned_abs s == 0) refusal2 (comes_back n (is_one_bit (unsigned_abs s)))

-- the kind of a verdict
unfoldable pub verdict_in : Line → Verdict
verdict_in no_order = NotRead
verdict_in (other_count n) = NotRead
verdict_in (not_whole n place) = NotWhole
verdict_in (matrix n zs) = sum_verdict (exact_signed_sum n (columns n zs))

-- its text
unfoldable pub verdict_text : Line → Bytes
verdict_text no_order = order_expected
verdict_text (other_count n) = entries_expected n
verdict_text (not_whole n place) = refusal6 n place
verdict_text (matrix n zs) = sum_line n (exact_signed_sum n (columns n zs))

-- ---- the totals

-- one more, as far as 64 bits count
abbrev pub more : ℕ → ℕ
more n = min (2 ^ 64 - 1) (n + 1)

-- no line so far
abbrev pub none : Totals
none = record { lines = 0; back = 0; rounded = 0; singular = 0; outside = 0; unread = 0 }

-- a verdict more
unfoldable pub counted : Totals → Verdict → Totals
counted t ComesBack = record { lines = more t.lines; back = more t.back; rounded = t.rounded; singular = t.singular; outside = t.outside; unread = t.unread }
counted t Rounded = record { lines = more t.lines; back = t.back; rounded = more t.rounded; singular = t.singular; outside = t.outside; unread = t.unread }
counted t Singular = record { lines = more t.lines; back = t.back; rounded = t.rounded; singular = more t.singular; outside = t.outside; unread = t.unread }
counted t NotWhole = record { lines = more t.lines; back = t.back; rounded = t.rounded; singular = t.singular; outside = more t.outside; unread = t.unread }
counted t NotRead = record { lines = more t.lines; back = t.back; rounded = t.rounded; singular = t.singular; outside = t.outside; unread = more t.unread }

-- a number and a text before it
abbrev pub labelled : String → ℕ → Bytes
labelled label n = text label ++ decimal n

-- the lines, those that come back, and those that need not
unfoldable pub sums_text : Totals → Bytes
sums_text t = labelled "lines: " t.lines ++ labelled "; come back exactly: " t.back ++ labelled "; need not: " t.rounded

-- the last line
unfoldable pub totals_text : Totals → Bytes
totals_text t = sums_text t ++ labelled "; refusal 2: " t.singular ++ labelled "; refusal 6: " t.outside ++ labelled "; not read: " t.unread ++ text "\n"

-- ---- what is claimed of these, beside the promises

-- the verdict's text is the end of the report; shown in proofs/Verdicts.antt
abbrev pub EndOfReport : Type 0
EndOfReport = (line : Line) → (before : Bytes) × (told line ≡ before ++ verdict_text line)

-- 256 bytes have room for every verdict and for the totals; shown in proofs/Verdicts.antt
pub record VerdictsFit : Type 0 where
  pub verdict : (line : Bytes) → length (verdict_text (line_of line)) ≤ 256
  pub totals : (t : Totals) → length (totals_text t) ≤ 256
