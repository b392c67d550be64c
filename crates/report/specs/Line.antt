-- What a line of words holds: an order, and then the entries of a matrix column by column; or what is wrong with it.
-- Assumes nothing.
use Rattle.std.specs.Prelude.{ℕ, ◌*◌, cond, List, [], ◌∷◌, map, length, take, ℤ, ◌==◌, Result, Ok, Err}
use Rattle.report.specs.declared.grid.Grid.{Grid}
use Rattle.report.specs.declared.line.Fault.{Fault}
use Rattle.report.specs.declared.line.Fault.TheVariants.{NoOrder, OtherCount, NotWhole}
use Rattle.report.specs.Text.{Bytes}
use Rattle.report.specs.Words.{words, order_of, fits, passing, number_of}
use Rattle.report.specs.Grid.{size, order_in}

-- no order; an order with another number of words behind it; with a word at a place that is no whole number of magnitude at most 1024; a matrix of whole numbers
pub data Line : Type 0 where
  no_order : Line
  other_count : ℕ → Line
  not_whole : ℕ → ℕ → Line
  matrix : ℕ → List ℤ → Line

-- as many words as the matrix has entries: a matrix where all of them fit, else the first that does not
unfoldable pub entries_in : ℕ → List Bytes → Line
entries_in n ws = cond (passing fits ws == n * n) (matrix n (map number_of ws)) (not_whole n (passing fits ws))

-- the words after the order
unfoldable pub after_order : ℕ → List Bytes → Line
after_order n ws = cond (length ws == n * n) (entries_in n ws) (other_count n)

-- the words of a line, an order first
unfoldable pub line_in : List Bytes → Line
line_in [] = no_order
line_in (w ∷ ws) = cond (order_of w == 0) no_order (after_order (order_of w) ws)

-- the line itself
abbrev pub line_of : Bytes → Line
line_of s = line_in (words s)

-- ---- how the code holds it

-- what is wrong with a line
abbrev pub fault_meant : Fault → Line
fault_meant NoOrder = no_order
fault_meant (OtherCount order) = other_count (size order)
fault_meant (NotWhole order place) = not_whole (size order) place

-- the line that an answer stands for
abbrev pub meant : Result Grid Fault → Line
meant (Err fault) = fault_meant fault
meant (Ok g) = matrix (order_in g) (take (order_in g * order_in g) g.entries)
