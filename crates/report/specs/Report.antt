-- The report of a line of words. What is printed is taken from the exact engine's own definitions.
-- Assumes nothing.
use Rattle.std.specs.Prelude.{◌≡◌, ℕ, zero, suc, ◌*◌, ◌/◌, ◌%◌, ◌<◌, ◌≤◌, Bool, true, false, cond, [], ◌++◌, length, take, drop, ℤ, pos, ◌*ℤ◌, ◌==◌, int_lt, unsigned_abs}
use Rattle.std.specs.Int.{◌∣◌}
use Rattle.whole.specs.Matrix.{Matrix}
use Rattle.whole.specs.Order.{exact_signed_sum}
use Rattle.engine.specs.Engine.{is_one_bit, cofactor_of}
use Rattle.report.specs.declared.fraction.Ratio.{Ratio}
use Rattle.report.specs.Text.{Bytes, text, each, decimal, whole}
use Rattle.report.specs.Words.{some, words, is_help}
use Rattle.report.specs.Entries.{columns}
use Rattle.report.specs.Line.{Line, no_order, other_count, not_whole, matrix, line_of}

-- ---- fractions

-- two numbers as a fraction
abbrev pub ratio : ℕ → ℕ → Ratio
ratio a b = record { over = a; under = b }

-- the greatest common divisor by Euclid's steps, in at most k of them
unfoldable pub euclid : ℕ → ℕ → ℕ → ℕ
euclid zero a b = a
euclid (suc k) a b = cond (b == 0) a (euclid k b (a % b))

-- b steps are enough, since each makes the second number smaller
abbrev pub gcd : ℕ → ℕ → ℕ
gcd a b = euclid b a b

-- in lowest terms: both divided by their greatest common divisor
unfoldable pub reduced : ℕ → ℕ → Ratio
reduced a b = ratio (a / gcd a b) (b / gcd a b)

-- a fraction without its sign: over 1 the number alone
unfoldable pub ratio_text : Ratio → Bytes
ratio_text q = decimal q.over ++ cond (q.under == 1) [] (text "/" ++ decimal q.under)

-- the fraction k / s: a minus sign where it is below zero, then the magnitudes
unfoldable pub fraction : ℤ → ℤ → Bytes
fraction k s = cond (int_lt (k *ℤ s) (pos 0)) (text "-") [] ++ ratio_text (reduced (unsigned_abs k) (unsigned_abs s))

-- ---- the matrix and its inverse

-- an entry of the matrix, or of its inverse: a cofactor over the sum, columns and rows exchanged
abbrev pub cell : Bool → ℕ → Matrix → ℤ → ℕ → ℕ → Bytes
cell false n m s c r = whole (m c r)
cell true n m s c r = fraction (cofactor_of n m r c) s

-- one line for each row, a space before each entry
abbrev pub row_of : Bool → ℕ → Matrix → ℤ → ℕ → Bytes
row_of inverse n m s r = each n (λ c. text " " ++ cell inverse n m s c r) ++ text "\n"

-- every row
unfoldable pub rows_of : Bool → ℕ → Matrix → ℤ → Bytes
rows_of inverse n m s = each n (λ r. row_of inverse n m s r)

-- ---- the sentences

-- whether the inverse is exact
unfoldable pub exactness : Bool → Bytes
exactness exact = cond exact (text "the inverse is exact, since the sum is plus or minus a power of two:\n") (text "the inverse is not exact, since the sum is not plus or minus a power of two; as fractions:\n")

-- whether what the matrix moves comes back, within the limits of demand 3
unfoldable pub comes_back : ℕ → Bool → Bytes
comes_back n exact =
    cond exact
    (cond (n == 4) (text "what it moves comes back exactly: every whole vector with entries up to 64\n") (text "what it moves comes back exactly: every whole vector with entries up to 32768\n"))
    (text "what it moves need not come back exactly, since the inverse is rounded\n")

-- before the matrix, and before its sum
abbrev pub matrix_head : Bytes
matrix_head = text "the matrix, from entries given column by column:\n"

abbrev pub sum_head : Bytes
sum_head = text "its signed sum: "

-- the refusals of document 01, 'The numbers a refusal carries', that a report has: their numbers and causes
abbrev pub refusal2 : Bytes
refusal2 = text "refusal 2: the signed sum is zero, so there is no inverse\n"

-- the entry at a place of the list that goes column by column, at the order n
unfoldable pub refusal6 : ℕ → ℕ → Bytes
refusal6 n place =
    text "refusal 6: the entry at column " ++ decimal (place / n) ++ text ", row " ++ decimal (place % n)
    ++ text " (both counted from 0) is not a whole number of magnitude at most 1024\n"

-- what was expected in front, and after the order
abbrev pub order_expected : Bytes
order_expected = text "expected an order first, 2, 3 or 4, then the entries column by column\n"

unfoldable pub entries_expected : ℕ → Bytes
entries_expected n = text "expected " ++ decimal (n * n) ++ text " whole numbers after the order, column by column\n"

-- how to use the tool
unfoldable pub help : Bytes
help =
    text "comesback ORDER ENTRY..: the report of one matrix, and whether what it moves comes back\n"
    ++ text "comesback: reads one matrix a line, ORDER ENTRY.., from standard input; answers one verdict a line, then the totals\n"
    ++ text "ORDER is 2, 3 or 4; the entries stand column by column and are whole numbers from -1024 to 1024\n"
    ++ text "entries are plain numbers: who holds scales as whole sixty-fourths holds offsets so too,\n"
    ++ text "the last row stays 0, 0, 1, and what comes out is in sixty-fourths\n"

-- ---- the report

-- where there is an inverse
unfoldable pub inverse_report : ℕ → Matrix → ℤ → Bytes
inverse_report n m s = exactness (is_one_bit (unsigned_abs s)) ++ rows_of true n m s ++ comes_back n (is_one_bit (unsigned_abs s))

-- the matrix and its signed sum, then refusal 2 or the inverse
unfoldable pub sum_report : ℕ → Matrix → ℤ → Bytes
sum_report n m s =
    matrix_head ++ rows_of false n m s ++ sum_head ++ whole s ++ text "\n"
    ++ cond (unsigned_abs s == 0) refusal2 (inverse_report n m s)

-- the report of a matrix: its own signed sum
abbrev pub matrix_report : ℕ → Matrix → Bytes
matrix_report n m = sum_report n m (exact_signed_sum n m)

-- what a line holds, told in full
unfoldable pub told : Line → Bytes
told no_order = order_expected
told (other_count n) = entries_expected n
told (not_whole n place) = refusal6 n place
told (matrix n zs) = matrix_report n (columns n zs)

-- the line: how to use the tool where --help is among its words, else its report
unfoldable pub report_of : Bytes → Bytes
report_of line = cond (some is_help (words line)) help (told (line_of line))

-- a text at the start of what is lent, as much of it as there is room for, and after it what stood there
abbrev pub at_start : Bytes → Bytes → Bytes
at_start before t = take (length before) t ++ drop (length t) before

-- ---- what is claimed of these, beside the promise

-- 2048 bytes have room for every report; shown in proofs/Fits.antt
abbrev pub EveryReportFits : Type 0
EveryReportFits = (line : Bytes) → length (report_of line) ≤ 2048

-- the fraction q is a / b, and no number but 1 divides both its numbers
pub record Lowest (a b : ℕ) (q : Ratio) : Type 0 where
  pub value : q.over * b ≡ a * q.under
  pub coprime : (d : ℕ) → d ∣ q.over → d ∣ q.under → d ≡ 1

-- over any number but zero the fraction is in lowest terms; shown in proofs/Lowest.antt
abbrev pub LowestTerms : Type 0
LowestTerms = (a b : ℕ) → 0 < b → Lowest a b (reduced a b)
