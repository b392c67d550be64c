-- Document 01, 'Slips this trade knows', of rows and swaps, with a swap in place that writes nothing, a zero with a wrong entry and wrong names for a place (document 02, No. 1, 'Say column or row'): where each parts from the definition of `matrix` or `vector`.
-- Each follows the text of the right definition, in matrix/specs/Places.antt or vector/specs/Vectors.antt, but for the slip. Assumes nothing.
use Rattle.std.specs.Prelude.{◌≡◌, ℕ, cond, eqb}
use Rattle.vector.specs.Arithmetic.{float0, float1}
use Rattle.vector.specs.Refusals.{Outcome, given, refused, after, leaves, below_limit}
use Rattle.vector.specs.Vectors.{vector2, vector3, entries4, of_entries3, without, truncate_n4}
use Rattle.vector.specs.declared.refusal.Place.TheVariants.{First, Second}
use Rattle.vector.specs.declared.refusal.Refusal.TheVariants as cause
use Rattle.vector.specs.declared.Vector2.{Vector2}
use Rattle.vector.specs.declared.Vector3.{Vector3}
use Rattle.vector.specs.declared.Vector4.{Vector4}
use Rattle.matrix.specs.Records.{order2, array2, of_array2, zero3, from_diagonal3}
use Rattle.matrix.specs.Places.{at, row_below, column_below, rows_below, columns_below, elements_below, row_of2, row2, swap_columns, swap_columns2, swap_columns4}
use Rattle.matrix.specs.declared.places.Column.{Column}
use Rattle.matrix.specs.declared.places.Row.{Row}
use Rattle.matrix.specs.declared.records.Matrix2.{Matrix2}
use Rattle.matrix.specs.declared.records.Matrix3.{Matrix3}
use Rattle.slips.specs.Parts.{Parts, r1, r10}

-- ---- the slips

-- slip: [c][r] is read as [r][c], so that column r is handed out as row r
abbrev pub row2_row_first : Matrix2 → Row → Outcome Vector2
row2_row_first m r = after (row_below order2 First r) (given (vector2 (at (array2 m) r.0 0) (at (array2 m) r.0 1)))

-- slip: a swap with equal numbers is harmless, whatever the order
abbrev pub swap_columns2_harmless : Matrix2 → Column → Column → Outcome Matrix2
swap_columns2_harmless m a b =
    after (cond (eqb a.0 b.0) (given tt) (columns_below order2 a b))
    (given (of_array2 (swap_columns (array2 m) a.0 b.0)))

-- slip: what is lent is left as it was, also where the values are given
abbrev pub leaves_before : {A : Type 0} → A → Outcome A → A
leaves_before before (given a) = before
leaves_before before (refused why) = before

-- slip: the zero of order 3 has a 1 on its diagonal
abbrev pub zero3_with_one : Matrix3
zero3_with_one = from_diagonal3 (vector3 float0 float1 float0)

-- slip: rows are tested before columns
abbrev pub elements_rows_first : ℕ → Column → Row → Column → Row → Outcome Unit
elements_rows_first n ac ar bc br = after (row_below n First ar) (after (row_below n Second br) (after (column_below n First ac) (column_below n Second bc)))

-- slip: the second is named where the first is wrong
abbrev pub rows_second_named : ℕ → Row → Row → Outcome Unit
rows_second_named n a b = after (row_below n Second a) (row_below n Second b)

-- slip: 11 for a row
abbrev pub row2_column : Matrix2 → Row → Outcome Vector2
row2_column m r = after (below_limit (cause.Column First) order2 r.0) (given (row_of2 (array2 m) r.0))

-- slip: a dropped element is named a column
abbrev pub truncate_n4_column : Vector4 → ℕ → Outcome Vector3
truncate_n4_column v n = after (below_limit (cause.Column First) 4 n) (given (of_entries3 (without n (entries4 v))))

-- ---- the inputs beside R1 and R10

-- row numbers and column numbers
abbrev pub row0 : Row
row0 = record { 0 = 0 }

abbrev pub row5 : Row
row5 = record { 0 = 5 }

abbrev pub column0 : Column
column0 = record { 0 = 0 }

abbrev pub column3 : Column
column3 = record { 0 = 3 }

abbrev pub column5 : Column
column5 = record { 0 = 5 }

-- ---- what is claimed

-- each parts from the right definition; swap_columns(5,5) at order 2 is R11
pub record PlaceSlips : Type 0 where
  pub row_first2 : Parts (row2 r1) (row2_row_first r1) row0
  pub equal_accepted : Parts (swap_columns2 r1 column5) (swap_columns2_harmless r1 column5) column5
  pub left_as_was : Parts (leaves r10) (leaves_before r10) (swap_columns4 r10 column0 column3)
  pub wrong_zero : ¬ (zero3 ≡ zero3_with_one)
  pub rows_first : Parts (elements_below 2 column5 row5 column0) (elements_rows_first 2 column5 row5 column0) row0
  pub second_named : Parts (rows_below 2 row5) (rows_second_named 2 row5) row0
  pub row_as_column : Parts (row2 r1) (row2_column r1) row5
  pub element_as_column : Parts (truncate_n4 r10.x) (truncate_n4_column r10.x) 4
