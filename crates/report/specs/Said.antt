-- The report taken at its word: where the text ends with the sentence 'what it moves comes back exactly: ..', the line is a matrix, and what the sentence says is true of it.
-- Assumes nothing.
use Rattle.std.specs.Prelude.{◌≡◌, ℕ, true, List, ◌++◌, ℤ}
use Rattle.engine.specs.Demand.{port2, port3, port4}
use Rattle.report.specs.declared.totals.Verdict.TheVariants as verdict
use Rattle.report.specs.Text.{Bytes}
use Rattle.report.specs.Entries.{Square}
use Rattle.report.specs.Line.{Line, matrix, line_of}
use Rattle.report.specs.Held.{vectors_of, Held}
use Rattle.report.specs.Report.{comes_back, report_of}
use Rattle.report.specs.Verdict.{verdict_in, verdict_text}

-- the text ends with the sentence that the report has for a yes at the order k
abbrev pub EndsWithYes : Bytes → ℕ → Type 0
EndsWithYes t k = (before : Bytes) × (t ≡ before ++ comes_back k true)

-- the line holds a matrix of whole numbers, of magnitude at most 1024; at its order the matrix comes back, for vectors up to the limit
pub record ComesBack (line : Line) (limit : ℕ) : Type 0 where
  pub order : ℕ
  pub numbers : List ℤ
  pub is : line ≡ matrix order numbers
  pub square : Square order numbers
  pub limit_is : vectors_of order ≡ limit
  pub at_order2 : order ≡ 2 → Held port2 numbers
  pub at_order3 : order ≡ 3 → Held port3 numbers
  pub at_order4 : order ≡ 4 → Held port4 numbers

-- what the sentence says is true, with the limit that it names: in a report, in the text of a verdict, and where a verdict is of that kind; shown in proofs/Said.antt
pub record SaidIsTrue : Type 0 where
  pub in_report : (line : Bytes) (k : ℕ) → EndsWithYes (report_of line) k → ComesBack (line_of line) (vectors_of k)
  pub in_verdict : (line : Bytes) (k : ℕ) → EndsWithYes (verdict_text (line_of line)) k → ComesBack (line_of line) (vectors_of k)
  pub as_kind : (line : Bytes) → verdict_in (line_of line) ≡ verdict.ComesBack → (k : ℕ) × ComesBack (line_of line) (vectors_of k)
