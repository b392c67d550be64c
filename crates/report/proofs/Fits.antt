-- Every report fits in 2048 bytes: a number has 20 digits at most, and the sentences are what they are.
-- Assumes nothing.
use Rattle.std.proofs.Common.{ℕ, zero, suc, ◌+◌, ◌*◌, ◌/◌, ◌%◌, ◌^◌, ◌≤◌, Bool, true, false, cond, eqb, leb, [], ◌∷◌, ◌++◌, length, ℤ, pos, negsuc, ◌*ℤ◌, nat_abs, le_trans, mul-le-mul_right, suc-mul, arith, lit≤, length-append}
use lib.Signed.{lt_z}
use Rattle.whole.specs.Matrix.{Matrix}
use Rattle.whole.specs.Order.{exact_signed_sum}
use Rattle.engine.specs.Engine.{is_one_bit, cofactor_of}
use Rattle.report.specs.declared.fraction.Ratio.{Ratio}
use Rattle.report.specs.Text.{Bytes, text, each, digit, higher, decimal, whole}
use Rattle.report.specs.Words.{some, words, is_help}
use Rattle.report.specs.Entries.{columns}
use Rattle.report.specs.Line.{Line, no_order, other_count, not_whole, matrix, line_of}
use Rattle.report.specs.Report.{reduced, ratio_text, fraction, cell, row_of, rows_of, exactness, comes_back, inverse_report, sum_report, matrix_head, sum_head, refusal2, refusal6, entries_expected, help, told, report_of, EveryReportFits}
use Rattle.report.proofs.Lines.{SquareIn, square_in}

-- one text after another
pub joined : (s t : Bytes) (a b : ℕ) → length s ≤ a → length t ≤ b → length (s ++ t) ≤ a + b
joined s t a b h l = rw (length-append s t) (omega arith)

-- one of two texts
pub either : (b : Bool) (s t : Bytes) (a : ℕ) → length s ≤ a → length t ≤ a → length (cond b s t) ≤ a
either true s t a h l = h
either false s t a h l = l

-- texts one after another
each_fits : (n a : ℕ) (f : ℕ → Bytes) → ((k : ℕ) → length (f k) ≤ a) → length (each n f) ≤ n * a
each_fits zero a f h = omega arith
each_fits (suc n) a f h = rw (length-append (each n f) (f n)) (omega (arith, suc-mul n a, each_fits n a f h, h n))

-- numbers
higher_fits : (j n : ℕ) → length (higher j n) ≤ j
unfolding higher
higher_fits zero n = omega arith
higher_fits (suc j) n =
    let first = either (leb (10 ^ suc j) n) (digit (n / 10 ^ suc j) ∷ []) [] 1 (lit≤ tt) (lit≤ tt) in
    rw (length-append (cond (leb (10 ^ suc j) n) (digit (n / 10 ^ suc j) ∷ []) []) (higher j n)) (omega (arith, first, higher_fits j n))

pub decimal_fits : (n : ℕ) → length (decimal n) ≤ 20
unfolding decimal
decimal_fits n = joined (higher 19 n) (digit n ∷ []) 19 1 (higher_fits 19 n) (lit≤ tt)

whole_fits : (z : ℤ) → length (whole z) ≤ 42
unfolding whole
whole_fits (pos n) = le_trans (decimal_fits n) (lit≤ tt)
whole_fits (negsuc n) = le_trans (joined (text "-") (decimal (suc n)) 1 20 (lit≤ tt) (decimal_fits (suc n))) (lit≤ tt)

ratio_fits : (q : Ratio) → length (ratio_text q) ≤ 41
unfolding ratio_text
ratio_fits q =
    joined (decimal q.over) (cond (eqb q.under 1) [] (text "/" ++ decimal q.under)) 20 21 (decimal_fits q.over)
    (either (eqb q.under 1) [] (text "/" ++ decimal q.under) 21 (omega arith) (joined (text "/") (decimal q.under) 1 20 (lit≤ tt) (decimal_fits q.under)))

fraction_fits : (k s : ℤ) → length (fraction k s) ≤ 42
unfolding fraction
fraction_fits k s =
    joined (cond (lt_z (k *ℤ s) (pos 0)) (text "-") []) (ratio_text (reduced (nat_abs k) (nat_abs s))) 1 41 (either (lt_z (k *ℤ s) (pos 0)) (text "-") [] 1 (lit≤ tt) (omega arith)) (ratio_fits (reduced (nat_abs k) (nat_abs s)))

-- rows
cell_fits : (b : Bool) (n : ℕ) (m : Matrix) (s : ℤ) (c r : ℕ) → length (cell b n m s c r) ≤ 42
cell_fits false n m s c r = whole_fits (m c r)
cell_fits true n m s c r = fraction_fits (cofactor_of n m r c) s

module _ (n : ℕ) (m : Matrix) (most : n ≤ 4) where
  row_fits : (b : Bool) (s : ℤ) (r : ℕ) → length (row_of b n m s r) ≤ 173
  row_fits b s r =
      joined (each n (λ c. text " " ++ cell b n m s c r)) (text "\n") 172 1
      (le_trans (each_fits n 43 (λ c. text " " ++ cell b n m s c r) (λ c. joined (text " ") (cell b n m s c r) 1 42 (lit≤ tt) (cell_fits b n m s c r))) (mul-le-mul_right {m = n} {n = 4} 43 most))
      (lit≤ tt)

  rows_fit : (b : Bool) (s : ℤ) → length (rows_of b n m s) ≤ 692
  unfolding rows_of
  rows_fit b s = le_trans (each_fits n 173 (row_of b n m s) (row_fits b s)) (mul-le-mul_right {m = n} {n = 4} 173 most)

-- the sentences
exactness_fits : (b : Bool) → length (exactness b) ≤ 100
unfolding exactness
exactness_fits true = lit≤ tt
exactness_fits false = lit≤ tt

pub comes_back_fits : (n : ℕ) (b : Bool) → length (comes_back n b) ≤ 100
unfolding comes_back
comes_back_fits n true = by_order (eqb n 4)
  where
    by_order : (t : Bool) → length (cond t (text "what it moves comes back exactly: every whole vector with entries up to 64\n") (text "what it moves comes back exactly: every whole vector with entries up to 32768\n")) ≤ 100
    by_order true = lit≤ tt
    by_order false = lit≤ tt
comes_back_fits n false = lit≤ tt

-- a matrix
module _ (n : ℕ) (m : Matrix) (most : n ≤ 4) where
  inverse_fits : (s : ℤ) → length (inverse_report n m s) ≤ 892
  unfolding inverse_report
  inverse_fits s =
      joined (exactness (is_one_bit (nat_abs s)) ++ rows_of true n m s) (comes_back n (is_one_bit (nat_abs s))) 792 100
      (joined (exactness (is_one_bit (nat_abs s))) (rows_of true n m s) 100 692 (exactness_fits (is_one_bit (nat_abs s))) (rows_fit n m most true s))
      (comes_back_fits n (is_one_bit (nat_abs s)))

  matrix_fits : (s : ℤ) → length (sum_report n m s) ≤ 2048
  unfolding sum_report
  matrix_fits s =
      le_trans
      (joined (matrix_head ++ rows_of false n m s ++ sum_head ++ whole s ++ text "\n") (cond (eqb (nat_abs s) 0) refusal2 (inverse_report n m s)) 900 892
      (joined (matrix_head ++ rows_of false n m s ++ sum_head ++ whole s) (text "\n") 899 1
      (joined (matrix_head ++ rows_of false n m s ++ sum_head) (whole s) 857 42
      (joined (matrix_head ++ rows_of false n m s) (sum_head) 757 100 (joined (matrix_head) (rows_of false n m s) 65 692 (lit≤ tt) (rows_fit n m most false s)) (lit≤ tt)) (whole_fits s)) (lit≤ tt))
      (either (eqb (nat_abs s) 0) refusal2 (inverse_report n m s) 892 (lit≤ tt) (inverse_fits s)))
      (lit≤ tt)

-- what a line holds
pub refusal_fits : (n place : ℕ) → length (refusal6 n place) ≤ 200
unfolding refusal6
refusal_fits n place =
    le_trans
    (joined (text "refusal 6: the entry at column " ++ decimal (place / n) ++ text ", row " ++ decimal (place % n)) (text " (both counted from 0) is not a whole number of magnitude at most 1024\n") 79 80
    (joined (text "refusal 6: the entry at column " ++ decimal (place / n) ++ text ", row ") (decimal (place % n)) 59 20
    (joined (text "refusal 6: the entry at column " ++ decimal (place / n)) (text ", row ") 53 6 (joined (text "refusal 6: the entry at column ") (decimal (place / n)) 33 20 (lit≤ tt) (decimal_fits (place / n))) (lit≤ tt))
    (decimal_fits (place % n))) (lit≤ tt))
    (lit≤ tt)

pub expected_fits : (n : ℕ) → length (entries_expected n) ≤ 200
unfolding entries_expected
expected_fits n = le_trans (joined (text "expected " ++ decimal (n * n)) (text " whole numbers after the order, column by column\n") 30 100 (joined (text "expected ") (decimal (n * n)) 10 20 (lit≤ tt) (decimal_fits (n * n))) (lit≤ tt)) (lit≤ tt)

told_fits : (line : Line) → SquareIn line → length (told line) ≤ 2048
unfolding told SquareIn
told_fits no_order square = lit≤ tt
told_fits (other_count n) square = le_trans (expected_fits n) (lit≤ tt)
told_fits (not_whole n place) square = le_trans (refusal_fits n place) (lit≤ tt)
told_fits (matrix n zs) square = matrix_fits n (columns n zs) square.most (exact_signed_sum n (columns n zs))

help_fits : length help ≤ 2048
unfolding help
help_fits = lit≤ tt

-- every line
pub every_report_fits : EveryReportFits
unfolding report_of
every_report_fits line = either (some is_help (words line)) help (told (line_of line)) 2048 help_fits (told_fits (line_of line) (square_in (words line)))
